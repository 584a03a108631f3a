-- The first place among the counters that are left is one of the counters' that stand, or the one before them. Assumes nothing.
use mathlib.Core.Path.{◌≡◌}
use Prim.Native.Nat.{◌+◌, ◌-◌, ◌*◌, ◌≤◌}
use Rattle.octets.specs.Pieces.{counters_from}
use Rattle.queue.specs.Entry.{place_of}
use Rattle.queue.proofs.store.place_of.Given as goal

abbrev pub invariant-loop-i : goal.invariant-loop-i
invariant-loop-i l = (l.i ≤ l.n) × (l.found ≡ l.i + place_of l.k (counters_from l.d (l.n - l.i) (4 * l.i)))
