use borrow.Author.Rules.{rules}
use Rattle.walk.proofs.Runs.{passings}
use Rattle.std.proofs.Common.{rules}
use Rattle.walk.proofs.run.octets_from.Goals as goal

pub loop-parts-preserved : goal.loop-parts-preserved
loop-parts-preserved c = search (passings, rules)
