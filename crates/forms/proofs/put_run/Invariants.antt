-- The bytes that are copied by now are put from the place on. Assumes nothing.
use mathlib.Core.Path.{◌≡◌}
use Prim.Native.Nat.{◌≤◌}
use lib.ListN.{length, take}
use Rattle.octets.specs.Bytes.{put_at}
use Rattle.forms.proofs.put_run.Given as goal

abbrev pub invariant-loop-i : goal.invariant-loop-i
invariant-loop-i l = (l.i ≤ l.n) × (length l.room ≡ length l.fn.room) × (l.room ≡ put_at l.fn.room l.at (take l.i l.d))
