-- The invariant: r bytes are a run. r rises to n, so n - r falls. Assumes nothing.
use Prim.Native.Nat.{◌-◌}
use Rattle.field.specs.Code.Item.{LowRun}
use Rattle.field.proofs.array.low_run.Given as goal

abbrev pub invariant-loop-r : goal.invariant-loop-r
invariant-loop-r l = LowRun l.s l.from l.n l.r

abbrev pub decreases-loop-r : goal.decreases-loop-r
decreases-loop-r l = l.n - l.r
