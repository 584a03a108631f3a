use borrow.Author.Rules.{rules}
use Rattle.faults.proofs.Chain.{chain}
use Rattle.std.proofs.Common.{rules}
use Rattle.faults.proofs.ul_data_fault.Goals as goal

pub returns-then-f-ne-NONE : goal.returns-then-f-ne-NONE
returns-then-f-ne-NONE c = search (chain, rules)

pub returns-then-not-is_lent : goal.returns-then-not-is_lent
returns-then-not-is_lent c = search (chain, rules)

pub returns-then-not-may_respond : goal.returns-then-not-may_respond
returns-then-not-may_respond c = search (chain, rules)

pub returns : goal.returns
returns c = search (chain, rules)
