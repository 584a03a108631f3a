-- A store of which one place has changed: the queue in it has that place's entry anew and is as it was besides, and it is whole where that place is.
-- What is put within a place changes no other. Assumes nothing.
use mathlib.Core.{Path.◌≡◌, Path.refl, Path.sym, Path.ap, Path.◌∙◌}
use Rattle.std.specs.Prelude.{None}
use mathlib.Core.{Bool.Bool, Bool.true, Bool.false, List.List}
use Prim.Native.Nat.{ℕ, zero, suc, ◌+◌, ◌*◌, ◌≤◌, ◌<◌}
use native.Mathlib.Nat.{zero-add, add-zero}
use native.Mathlib.Omega.{arith}
use lib.{Dec.eqb, Dec.ltb, ListN.length, ListN.drop, ListN.get_or, ListN.set, ListN.length-drop, ListN.length-set}
use lib.Seq.{get_or-take, get_or-drop, length-take-le, ext_get_or, get_or-set_same, get_or-set_other}
use borrow.Author.Tests.{eqb-true, eqb-false, ltb-true, ltb-false}
use Rattle.octets.specs.Bytes.{put_at}
use Rattle.octets.proofs.Writing.{length_put, stays_before, stays_behind}
use Rattle.octets.proofs.Truth.{both}
use Rattle.queue.specs.{Store.slot_at, Store.entry_in, Store.queue_at, Store.is_whole, Store.are_whole}
use Rattle.queue.proofs.Reached.{places_many, place_at}

-- a place's bytes
module _ (q : List ℕ) (i : ℕ) where
  pub slot_digit : (k : ℕ) → k < 984 → get_or (slot_at q i) k 0 ≡ get_or q (984 * i + k) 0
  unfolding slot_at
  slot_digit k h = get_or-take 984 (drop (984 * i) q) k 0 h ∙ get_or-drop (984 * i) q k 0

  pub slot_size : length q ≡ 31488 → i < 32 → length (slot_at q i) ≡ 984
  unfolding slot_at
  slot_size e h = length-take-le 984 (drop (984 * i) q) (omega (arith, length-drop (984 * i) q))

-- the i-th place alone
pub record Changed (q r : List ℕ) (i : ℕ) : Type 0 where
  pub long : length q ≡ 31488
  pub same : length r ≡ 31488
  pub place : i < 32
  pub kept : (j : ℕ) → j < 32 → (j ≡ i → ⊥) → slot_at r j ≡ slot_at q j

-- by what is put within it
module _ (q : List ℕ) (i p : ℕ) (vs : List ℕ) (long : length q ≡ 31488) (few : i < 32) (from : 984 * i ≤ p) (to : p + length vs ≤ 984 * i + 984) where
  byte_kept : (j k : ℕ) → (j ≡ i → ⊥) → k < 984 → get_or (put_at q p vs) (984 * j + k) 0 ≡ get_or q (984 * j + k) 0
  byte_kept j k n h = go (ltb j i) refl
    where
      go : (b : Bool) → ltb j i ≡ b → get_or (put_at q p vs) (984 * j + k) 0 ≡ get_or q (984 * j + k) 0
      go true e = stays_before q p vs (984 * j + k) (omega (arith, ltb-true j i e))
      go false e = stays_behind q p vs (984 * j + k) (omega (arith, ltb-false j i e, n))

  pub put_changed : Changed q (put_at q p vs) i
  put_changed = record {
    long = long;
    same = length_put q p vs ∙ long;
    place = few;
    kept = λ j l n. ext_get_or 0 (slot_at (put_at q p vs) j) (slot_at q j) (slot_size (put_at q p vs) j (length_put q p vs ∙ long) l ∙ sym (slot_size q j long l))
        (λ k h. let s : k < 984 = omega (arith, slot_size (put_at q p vs) j (length_put q p vs ∙ long) l) in slot_digit (put_at q p vs) j k s ∙ byte_kept j k n s ∙ sym (slot_digit q j k s));
  }

-- whole places, one by one
pub wholes_are : (q : List ℕ) (i n : ℕ) → are_whole q i n ≡ true → (j : ℕ) → j < n → is_whole (slot_at q (i + j)) ≡ true
unfolding are_whole
wholes_are q i zero e j h = absurd (omega arith)
wholes_are q i (suc n) e zero h = rw add-zero (both (is_whole (slot_at q i)) (are_whole q (suc i) n) e).0
wholes_are q i (suc n) e (suc j) h = let s : i + suc j ≡ suc i + j = omega arith in rw s (wholes_are q (suc i) n (both (is_whole (slot_at q i)) (are_whole q (suc i) n) e).1 j (omega arith))

pub are_whole_lem : (q : List ℕ) (i n : ℕ) → ((j : ℕ) → j < n → is_whole (slot_at q (i + j)) ≡ true) → are_whole q i n ≡ true
unfolding are_whole
are_whole_lem q i zero f = refl
are_whole_lem q i (suc n) f = rw (rw add-zero at (f 0 (omega arith)), are_whole_lem q (suc i) n (λ j h. let s : suc i + j ≡ i + suc j = omega arith in rw s (f (suc j) (omega arith))))

module _ (q r : List ℕ) (i : ℕ) (c : Changed q r i) where
  pub queue_changed : queue_at r ≡ set (queue_at q) i (entry_in (slot_at r i))
  queue_changed =
      ext_get_or None (queue_at r) (set (queue_at q) i (entry_in (slot_at r i))) (places_many r 0 32 ∙ sym (length-set (queue_at q) i (entry_in (slot_at r i)) ∙ places_many q 0 32))
      (λ j h. let l : j < 32 = omega (arith, places_many r 0 32) in place_at r 0 32 j l ∙ rw zero-add (go j l (eqb j i) refl))
    where
      go : (j : ℕ) → j < 32 → (b : Bool) → eqb j i ≡ b → entry_in (slot_at r j) ≡ get_or (set (queue_at q) i (entry_in (slot_at r i))) j None
      go j l true e = let s = eqb-true j i e in rw s (sym (get_or-set_same (queue_at q) i (entry_in (slot_at r i)) None (omega (arith, c.place, places_many q 0 32))))
      go j l false e =
          let n = eqb-false j i e in
          ap entry_in (c.kept j l n) ∙ sym (get_or-set_other (queue_at q) i j (entry_in (slot_at r i)) None n ∙ place_at q 0 32 j l ∙ rw zero-add)

  pub wholes_changed : are_whole q 0 32 ≡ true → is_whole (slot_at r i) ≡ true → are_whole r 0 32 ≡ true
  wholes_changed w h = are_whole_lem r 0 32 (λ j l. rw zero-add (go j l (eqb j i) refl))
    where
      go : (j : ℕ) → j < 32 → (b : Bool) → eqb j i ≡ b → is_whole (slot_at r j) ≡ true
      go j l true e = rw (eqb-true j i e) h
      go j l false e = ap is_whole (c.kept j l (eqb-false j i e)) ∙ rw zero-add at (wholes_are q 0 32 w j l)
