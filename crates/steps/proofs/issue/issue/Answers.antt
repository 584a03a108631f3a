use borrow.Author.Rules.{rules}
use Rattle.steps.proofs.Branches.{issue_unfit, issue_unsent, issue_sent}
use Rattle.steps.proofs.Tests.{fault_none}
use Rattle.std.proofs.Common.{rules}
use native.Mathlib.Omega.{arith}
use Rattle.steps.proofs.Storing.{long}
use Rattle.steps.proofs.issue.issue.Goals as goal

pub free_place-requires : goal.free_place-requires
free_place-requires c = let l = long _ c.requires in omega arith

pub put-requires : goal.put-requires
put-requires c = fault_none _ _ _ c.fault.ensures c.if-fault-ne0.false

pub returns-then-fault-ne0 : goal.returns-then-fault-ne0
returns-then-fault-ne0 c = search (issue_unfit, rules)

pub returns-in_err-length : goal.returns-in_err-length
returns-in_err-length c = search (issue_unsent, c.in_err-length.ensures, c.in-Some.ensures.is, rules)

pub returns : goal.returns
returns c = search (issue_sent, c.in_ok-length.ensures, c.in-Some.ensures.is, rules)
