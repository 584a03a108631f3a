-- The sum of the lengths that are left. Assumes nothing.
use mathlib.Core.Path.{◌≡◌}
use Prim.Native.Nat.{◌-◌, ◌*◌, ◌≤◌}
use Rattle.octets.specs.Pieces.{sum_of}
use Rattle.forms.proofs.Downlinks.{lengths_left}
use Rattle.queue.proofs.store.length_of.Given as goal

abbrev pub invariant-loop-i : goal.invariant-loop-i
invariant-loop-i l = (l.i ≤ l.n) × (l.sum ≡ sum_of (lengths_left l.d l.n l.i)) × (l.sum ≤ 255 * (l.n - l.i))
