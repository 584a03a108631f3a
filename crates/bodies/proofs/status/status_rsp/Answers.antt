-- The fields in the order of the list. Assumes nothing.
use borrow.Author.Rules.{rules}
use Rattle.std.proofs.Common.{rules}
use Rattle.bodies.proofs.Commands.{status_is}
use Rattle.bodies.proofs.status.status_rsp.Goals as goal

pub returns : goal.returns
returns c = search (status_is, rules)
