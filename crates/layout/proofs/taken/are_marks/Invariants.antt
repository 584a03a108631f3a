-- `are_marks` meets its contract, by the laws of proofs/. Assumes nothing.
use Rattle.layout.specs.Taken.{places, are_marks}
use Prim.Native.Nat.{◌+◌, ◌-◌, ◌≤◌}
use mathlib.Core.Bool.{◌&&◌}
use mathlib.Core.Path.{◌≡◌}
use Rattle.layout.proofs.taken.are_marks.Given as goal

abbrev pub invariant-loop-i : goal.invariant-loop-i
invariant-loop-i l = (l.i ≤ l.n) × ((l.ok && are_marks l.d (places (l.at + l.i) (l.n - l.i))) ≡ are_marks l.d (places l.at l.n))
