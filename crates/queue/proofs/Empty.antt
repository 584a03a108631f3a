-- A store of zeros is sound, and its queue is empty: no place has a command. Assumes nothing.
use mathlib.Core.{Path.◌≡◌, Path.refl, Path.◌∙◌}
use Rattle.std.specs.Prelude.{None}
use mathlib.Core.{Bool.Bool, Bool.true, Bool.false, List.List}
use Prim.Native.Nat.{ℕ, zero, suc, ◌+◌, ◌*◌}
use native.Mathlib.Omega.{arith}
use lib.ListN.{length, get_or, replicate, length-replicate}
use Rattle.octets.specs.{Choice.either, Number.is_there, Number.little_at}
use Rattle.layout.specs.Taken.{number_at}
use Rattle.queue.specs.{Store.slot_at, Store.is_used, Store.places_from, Store.queue_at, Store.is_whole, Store.is_sound}
use Rattle.queue.proofs.{Counted.count_empty, Unique.once_unlike, Changed.slot_digit, Changed.are_whole_lem, Lasting.sound}

-- n zeros
module _ (n : ℕ) where
  abbrev zeros : List ℕ
  zeros = replicate n 0

  no_byte : (m k : ℕ) → ◌≡◌ {A = ℕ} (get_or (replicate m 0) k 0) 0
  no_byte zero k = refl
  no_byte (suc m) zero = refl
  no_byte (suc m) (suc k) = no_byte m k

  no_command : (i : ℕ) → number_at (slot_at zeros i) 1 8 ≡ 0
  unfolding little_at
  no_command i = rw (slot_digit zeros i 8 (omega arith) ∙ no_byte n (984 * i + 8)) (go (is_there (length (slot_at zeros i)) 8 1))
    where
      go : (b : Bool) → either b (λ _. 0 * 256 + 0) (λ _. 0) ≡ 0
      go true = refl
      go false = refl

  not_used : (i : ℕ) → is_used (slot_at zeros i) ≡ false
  not_used i = rw (no_command i)

  no_places : (i m : ℕ) → places_from zeros i m ≡ replicate m None
  unfolding places_from
  no_places i zero = refl
  no_places i (suc m) = rw (not_used i, no_places (suc i) m)

pub zeros_empty : queue_at (replicate 31488 0) ≡ replicate 32 None
zeros_empty = no_places 31488 0 32

pub zeros_sound : is_sound (replicate 31488 0) ≡ true
unfolding is_whole
zeros_sound = sound (replicate 31488 0) (record {
  long = length-replicate {A = ℕ} 31488 0;
  whole = are_whole_lem (replicate 31488 0) 0 32 (λ j h. rw (not_used 31488 (0 + j)));
  unlike = rw zeros_empty (once_unlike (replicate 32 None) (λ id. omega (arith, count_empty id 32)));
})
