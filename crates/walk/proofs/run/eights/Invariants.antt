-- `eights` meets its contract: at each turn the parts before the place are passed. The parts left fall. Assumes nothing.
use Prim.Native.Nat.{◌-◌}
use Rattle.walk.specs.Code.Run.{Passes}
use Rattle.walk.proofs.run.eights.Given as goal

abbrev pub invariant-loop-q : goal.invariant-loop-q
invariant-loop-q l = Passes l.s l.n l.at l.q l.i

abbrev pub decreases-loop-q : goal.decreases-loop-q
decreases-loop-q l = l.n - l.i
