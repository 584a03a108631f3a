-- A place that is freed has no entry, and the others are as they were. Assumes nothing.
use mathlib.Core.{Path.◌≡◌, Path.◌∙◌}
use mathlib.Core.{Bool.true, Bool.false, List.List, List.[], List.◌∷◌}
use Prim.Native.Nat.{ℕ, ◌+◌, ◌*◌, ◌<◌}
use native.Mathlib.Nat.{add-zero}
use native.Mathlib.Omega.{arith}
use lib.ListN.{length, get_or}
use Rattle.octets.specs.Number.{little_at}
use Rattle.octets.proofs.{Reading.if_there_lem, Writing.put_digit}
use Rattle.layout.specs.Taken.{number_at}
use Rattle.queue.specs.{Queue.freed, Store.slot_at, Store.is_used, Store.queue_at, Store.is_whole, Calls.freed_at}
use Rattle.queue.proofs.{Changed.Changed, Changed.slot_digit, Changed.slot_size, Changed.put_changed, Changed.queue_changed}

-- a byte of a place
pub byte_is : (s : List ℕ) (p : ℕ) → p < length s → number_at s 1 p ≡ get_or s p 0
unfolding little_at
byte_is s p h = if_there_lem s p 1 (little_at s p 1) (omega arith) (omega arith) ∙ omega arith

module _ (q : List ℕ) (i : ℕ) (long : length q ≡ 31488) (few : i < 32) where
  pub freed_changed : Changed q (freed_at q i) i
  freed_changed = put_changed q i (984 * i + 8) (0 ∷ []) long few (omega arith) (omega arith)

  command_freed : number_at (slot_at (freed_at q i) i) 1 8 ≡ 0
  command_freed =
      byte_is (slot_at (freed_at q i) i) 8 (omega (arith, slot_size (freed_at q i) i freed_changed.same few))
      ∙ slot_digit (freed_at q i) i 8 (omega arith) ∙ rw add-zero at (put_digit q (984 * i + 8) (0 ∷ []) (omega arith) 0 (omega arith))

  not_used : is_used (slot_at (freed_at q i) i) ≡ false
  not_used = rw command_freed

  pub freed_whole : is_whole (slot_at (freed_at q i) i) ≡ true
  unfolding is_whole
  freed_whole = rw not_used

  pub queue_freed : queue_at (freed_at q i) ≡ freed (queue_at q) i
  queue_freed = queue_changed q (freed_at q i) i freed_changed ∙ rw not_used
