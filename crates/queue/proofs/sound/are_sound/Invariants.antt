-- What is told of all is told of those that are left. Assumes nothing.
use mathlib.Core.Path.{◌≡◌}
use Prim.Native.Nat.{◌-◌, ◌≤◌}
use Rattle.queue.specs.Queue.{are_unlike}
use Rattle.queue.specs.Store.{queue_at, are_whole}
use Rattle.queue.specs.Code.Slots.{left}
use Rattle.queue.proofs.sound.are_sound.Given as goal

abbrev pub invariant-loop-i : goal.invariant-loop-i
invariant-loop-i l = (l.i ≤ 32) × (are_whole l.q 0 32 ≡ are_whole l.q l.i (32 - l.i)) × (are_unlike (queue_at l.q) ≡ are_unlike (left l.q l.i))
