-- The invariants: the room with the leading bytes that are left put from i on is the room with all of them, and the parts that are left end
-- where all end. Assumes nothing.
use mathlib.Core.Path.{◌≡◌}
use Prim.Native.Nat.{◌+◌, ◌-◌, ◌≤◌}
use lib.ListN.{length}
use Rattle.octets.specs.Bytes.{put_at}
use Rattle.field.specs.Code.Item.{leading_from}
use Rattle.field.proofs.Passing.{octets_end}
use Rattle.field.proofs.into.parts_into.Given as goal

abbrev pub invariant-loop-i : goal.invariant-loop-i
invariant-loop-i l =
    (l.i ≤ l.run) × (l.to + l.n ≤ length l.out) × (length l.out ≡ length l.fn.out)
    × (put_at l.out (l.to + l.i) (leading_from l.s (l.n - l.i) (l.from + l.i)) ≡ put_at l.fn.out l.to (leading_from l.s l.n l.from))

abbrev pub invariant-loop-i-2 : goal.invariant-loop-i-2
invariant-loop-i-2 l =
    (l.i ≤ l.n) × (l.to + l.n ≤ length l.out) × (length l.out ≡ length l.fn.out) × (octets_end l.s (l.n - l.i) l.q ≡ octets_end l.s l.n l.from)
    × (put_at l.out (l.to + l.i) (leading_from l.s (l.n - l.i) l.q) ≡ put_at l.fn.out l.to (leading_from l.s l.n l.from))
