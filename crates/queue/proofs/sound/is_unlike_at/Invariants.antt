-- The place against all behind it is the place against those that are left. Assumes nothing.
use mathlib.Core.Path.{◌≡◌}
use Prim.Native.Nat.{◌+◌, ◌≤◌}
use Rattle.queue.specs.Queue.{is_unlike}
use Rattle.queue.specs.Store.{slot_at, entry_in}
use Rattle.queue.specs.Code.Slots.{left}
use Rattle.queue.proofs.sound.is_unlike_at.Given as goal

abbrev pub invariant-loop-j : goal.invariant-loop-j
invariant-loop-j l = (l.j ≤ 32) × (is_unlike (entry_in (slot_at l.q l.i)) (left l.q (l.i + 1)) ≡ is_unlike (entry_in (slot_at l.q l.i)) (left l.q l.j))
