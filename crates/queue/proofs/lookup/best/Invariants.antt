-- The best of those that are left. Assumes nothing.
use mathlib.Core.Path.{◌≡◌}
use Prim.Native.Nat.{◌≤◌}
use Rattle.queue.specs.Queue.{chosen}
use Rattle.queue.specs.Code.Slots.{found_from, left}
use Rattle.queue.proofs.lookup.best.Given as goal

abbrev pub invariant-loop-i : goal.invariant-loop-i
invariant-loop-i l = (l.i ≤ 32) × (l.best ≡ found_from l.i (chosen l.wanted.eui l.wanted.counter l.wanted.expected (left l.q l.i)))
