-- The invariant: what is read by now ends with the bytes that are left as all of them do; i rises to n, so n - i falls.
-- Assumes nothing.
use mathlib.Core.Path.{◌≡◌}
use Prim.Native.Nat.{◌+◌, ◌-◌, ◌≤◌}
use lib.ListN.{take, drop}
use Rattle.field.specs.Code.Feed.{unfed, fed_all}
use Rattle.field.proofs.version.scanned.Given as goal

abbrev pub invariant-loop-i : goal.invariant-loop-i
invariant-loop-i l =
    (l.i ≤ l.n) × (fed_all l.v (take (l.n - l.i) (drop (l.from + l.i) l.s)) ≡ fed_all unfed (take l.n (drop l.from l.s)))
