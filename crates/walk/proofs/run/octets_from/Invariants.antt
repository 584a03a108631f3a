-- At each turn the parts before the place are passed, as many as the turn says. Assumes nothing.
use Rattle.std.proofs.Common.{◌≡◌}
use Rattle.walk.specs.Code.Run.{Passes}
use Rattle.walk.proofs.run.octets_from.Given as goal

abbrev pub invariant-loop-parts : goal.invariant-loop-parts
invariant-loop-parts l = Passes l.s l.n l.at l.run.at l.parts × (l.run.parts ≡ l.parts)
