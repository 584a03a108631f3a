-- The invariant: whether the parts that are left are counters is whether all are. Assumes nothing.
use mathlib.Core.Path.{◌≡◌}
use Prim.Native.Nat.{◌-◌}
use Rattle.field.specs.Code.Item.{is_some, naturals_from}
use Rattle.field.proofs.counters.counted.Given as goal

abbrev pub invariant-loop-i : goal.invariant-loop-i
invariant-loop-i l = is_some (naturals_from 0xFFFFFFFF l.s (l.n - l.i) l.q) ≡ is_some (naturals_from 0xFFFFFFFF l.s l.n l.from)
