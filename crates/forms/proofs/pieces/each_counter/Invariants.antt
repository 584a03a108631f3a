-- The counters that are left, put behind those that stand, make all. Assumes nothing.
use mathlib.Core.Path.{◌≡◌}
use Prim.Native.Nat.{◌-◌, ◌*◌}
use lib.ListN.{length}
use Rattle.octets.specs.Pieces.{counters_from, counters_lent}
use Rattle.forms.specs.Code.Put.{Put, put, put_parts, number_parts}
use Rattle.forms.proofs.pieces.each_counter.Given as goal

abbrev pub invariant-loop-i : goal.invariant-loop-i
invariant-loop-i l =
    (length l.room ≡ length l.initial.room) × (◌≡◌ {A = Put} (put_parts (number_parts (counters_from l.d (l.n - l.i) (4 * l.i))) (put l.room l.next)) (put_parts (number_parts (counters_lent l.n l.d)) (put l.initial.room l.at)))
