-- What is told of the lengths that are left, behind those that are summed, is told of all. Assumes nothing.
use mathlib.Core.Path.{◌≡◌}
use Prim.Native.Nat.{◌*◌, ◌≤◌}
use lib.ListN.{length}
use Rattle.octets.specs.Pieces.{lengths_lent}
use Rattle.forms.proofs.Downlinks.{lengths_left}
use Rattle.faults.specs.Code.Tests.{lengths_fit}
use Rattle.faults.proofs.downlink.lengths_fit.Given as goal

abbrev pub invariant-loop-i : goal.invariant-loop-i
invariant-loop-i l = (l.i ≤ l.n) × (l.sum ≤ 245 * l.i) × (lengths_fit (lengths_left l.d l.n l.i) l.sum (length l.d) ≡ lengths_fit (lengths_lent l.n l.d) 0 (length l.d))
