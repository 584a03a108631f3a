-- The invariant: x is the number of the bytes so far, and as wide as they are. Assumes nothing.
use mathlib.Core.Path.{◌≡◌}
use Prim.Native.Nat.{◌<◌, ◌^◌}
use Rattle.octets.specs.Number.{big_at}
use Rattle.octets.proofs.big_run.Given as goal

abbrev pub invariant-loop-b : goal.invariant-loop-b
invariant-loop-b l = record { number : l.x ≡ big_at l.d 0 l.b-index; width : l.x < 256 ^ l.b-index }
