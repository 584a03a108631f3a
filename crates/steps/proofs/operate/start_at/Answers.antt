use borrow.Author.Rules.{rules}
use Rattle.steps.proofs.Branches.{start_unsent, start_sent}
use Rattle.steps.proofs.Replies.{replies}
use Rattle.std.proofs.Common.{rules}
use native.Mathlib.Omega.{arith}
use Rattle.steps.proofs.Storing.{long}
use Rattle.steps.proofs.operate.start_at.Goals as goal

pub free_place-requires : goal.free_place-requires
free_place-requires c = let l = long _ c.requires.0 in omega arith

pub reply-requires : goal.reply-requires
reply-requires c = search (replies, rules)

pub returns-in_err-length : goal.returns-in_err-length
returns-in_err-length c = search (start_unsent, c.in_err-length.ensures, c.in-Some.ensures.is, rules)

pub returns : goal.returns
returns c = search (start_sent, c.in_ok-length.ensures, c.in-Some.ensures.is, rules)
