use Rattle.steps.proofs.Operating.{open_none}
use Rattle.steps.proofs.Operating.{open_answer}
use Rattle.steps.proofs.Operating.{open_complete}
use borrow.Author.Rules.{rules}
use Rattle.steps.proofs.Operating.{known, open_start}
use Rattle.std.proofs.Common.{rules}
use Rattle.steps.proofs.operate.in_open.Goals as goal

pub returns-in-9 : goal.returns-in-9
returns-in-9 c = search (open_start, known.ping, rules)

pub returns-in-3 : goal.returns-in-3
returns-in-3 c = search (open_start, known.det, rules)

pub returns-in-7 : goal.returns-in-7
returns-in-7 c = search (open_start, known.ul_data, rules)

pub returns-in-11 : goal.returns-in-11
returns-in-11 c = search (open_complete, known.ping_cmp, rules)

pub returns-in-14 : goal.returns-in-14
returns-in-14 c = search (open_complete, known.det_cmp, rules)

pub returns-in-20 : goal.returns-in-20
returns-in-20 c = search (open_complete, known.ul_data_cmp, rules)

pub returns-in-10 : goal.returns-in-10
returns-in-10 c = search (open_answer, known.ping_rsp, rules)

pub returns-in-2 : goal.returns-in-2
returns-in-2 c = search (open_answer, known.status_rsp, rules)

pub returns-in-15 : goal.returns-in-15
returns-in-15 c = search (open_answer, known.att_prp_rsp, rules)

pub returns-in-17 : goal.returns-in-17
returns-in-17 c = search (open_answer, known.det_prp_rsp, rules)

pub returns-in-22 : goal.returns-in-22
returns-in-22 c = search (open_answer, known.dl_data_que_rsp, rules)

pub returns-in_default : goal.returns-in_default
returns-in_default c = search (open_none, rules)
