-- The room with the bytes that are left put from i on is the room with all of them. Assumes nothing.
use mathlib.Core.Path.{◌≡◌}
use Prim.Native.Nat.{◌+◌, ◌-◌, ◌≤◌}
use lib.ListN.{length, take, drop}
use Rattle.octets.specs.Bytes.{put_at}
use Rattle.field.proofs.text.copy.Given as goal

abbrev pub invariant-loop-i : goal.invariant-loop-i
invariant-loop-i l =
    (l.i ≤ l.n) × (length l.out ≡ length l.fn.out) × (put_at l.out l.i (take (l.n - l.i) (drop (l.from + l.i) l.s)) ≡ put_at l.fn.out 0 (take l.n (drop l.from l.s)))
