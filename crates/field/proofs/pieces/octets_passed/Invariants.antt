-- The invariant: the parts that are left end where all end. Assumes nothing.
use mathlib.Core.Path.{◌≡◌}
use Prim.Native.Nat.{◌-◌, ◌≤◌}
use Rattle.field.proofs.Passing.{octets_end}
use Rattle.field.proofs.pieces.octets_passed.Given as goal

abbrev pub invariant-loop-i : goal.invariant-loop-i
invariant-loop-i l = (l.i ≤ l.n) × (octets_end l.s (l.n - l.i) l.q ≡ octets_end l.s l.n l.from)
