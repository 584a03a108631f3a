use borrow.Author.Rules.{rules}
use Rattle.faults.proofs.Reals.{absents}
use Rattle.std.proofs.Common.{rules}
use Rattle.faults.proofs.part.maybe_position.Goals as goal

pub returns-then-x : goal.returns-then-x
returns-then-x c = search (absents, rules)

pub returns-else-x : goal.returns-else-x
returns-else-x c = search (absents, rules)
