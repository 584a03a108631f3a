-- The numbers that are left, put behind those that stand, make all. Assumes nothing.
use mathlib.Core.Path.{◌≡◌}
use lib.ListN.{length, drop}
use Rattle.forms.specs.Code.Put.{Put, put, put_parts, number_parts}
use Rattle.forms.proofs.parts.put_numbers.Given as goal

abbrev pub invariant-loop-b : goal.invariant-loop-b
invariant-loop-b l =
    (length l.room ≡ length l.initial.room) × (◌≡◌ {A = Put} (put_parts (number_parts (drop l.b-index l.d)) (put l.room l.next)) (put_parts (number_parts l.d) (put l.initial.room l.at)))
