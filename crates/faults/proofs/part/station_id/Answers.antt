use borrow.Author.Rules.{rules}
use Rattle.faults.proofs.Ids.{ids}
use Rattle.std.proofs.Common.{rules}
use Rattle.faults.proofs.part.station_id.Goals as goal

pub returns-then-x : goal.returns-then-x
returns-then-x c = search (ids, rules)

pub returns-else-x : goal.returns-else-x
returns-else-x c = search (ids, rules)
