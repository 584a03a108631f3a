use borrow.Author.Rules.{rules}
use Rattle.steps.proofs.Branches.{respond_unsent, respond_sent}
use Rattle.steps.proofs.Replies.{replies}
use Rattle.std.proofs.Common.{rules}
use native.Mathlib.Omega.{arith}
use Rattle.steps.proofs.Storing.{long}
use Rattle.steps.proofs.operate.answers.Goals as goal

pub place_of-requires : goal.place_of-requires
place_of-requires c = let l = long _ c.requires.0 in (omega arith, omega arith)

pub reply-requires : goal.reply-requires
reply-requires c = search (replies, rules)

pub returns-in_err-length : goal.returns-in_err-length
returns-in_err-length c = search (respond_unsent, c.in_err-length.ensures, c.in-Some.ensures.is, rules)

pub returns : goal.returns
returns c = search (respond_sent, c.in_ok-length.ensures, c.in-Some.ensures.is, rules)
