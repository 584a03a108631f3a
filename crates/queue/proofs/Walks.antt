-- A place of the store, the places that are left where a walk comes to one, and the first that passes a test. Each law in the shape of a need of the code.
-- Assumes nothing.
use mathlib.Core.{Path.◌≡◌, Path.refl, Path.sym, Path.ap, Path.◌∙◌}
use Rattle.std.specs.Prelude.{Option, Some, None, MatchOption}
use mathlib.Core.Bool.{Bool, true, false}
use mathlib.Core.List.{List, [], ◌∷◌}
use Prim.Native.Nat.{ℕ, zero, suc, ◌+◌, ◌-◌, ◌*◌, ◌/◌, ◌≤◌, ◌<◌}
use native.Mathlib.Nat.{zero-add}
use native.Mathlib.Omega.{arith}
use Rattle.std.specs.Simd.{first_chunks}
use lib.{ListN.length, ListN.take, ListN.drop, ListN.get_or, Seq.drop-drop}
use Rattle.layout.specs.Taken.{number_at, dl_data_que_at}
use Rattle.queue.specs.Entry.{Entry, goes_before}
use Rattle.queue.specs.Queue.{first_place}
use Rattle.queue.specs.Store.{slot_at, entry_in, places_from, queue_at}
use Rattle.queue.specs.Code.{Rank.bits_before, Slots.entry_at, Slots.left}
use Rattle.queue.proofs.{Places.missed, Places.first_at, Reached.places_many, Reached.place_at}

-- a place of the store is one of the parts that it falls into
pub slot_is : (n : ℕ) (q : List ℕ) (i : ℕ) (d : List ℕ) → i < n → get_or (first_chunks 984 n q) i d ≡ slot_at q i
unfolding slot_at
slot_is zero q i d h = absurd (omega arith)
slot_is (suc n) q zero d h = refl
slot_is (suc n) q (suc i) d h =
    slot_is n (drop 984 q) i d (omega arith) ∙ ap (take 984) (drop-drop (984 * i) 984 q ∙ ap (λ (k : ℕ). drop k q) (omega arith))

pub slot_in : (q : List ℕ) (i : ℕ) (d : List ℕ) (c : List (List ℕ)) → length q ≡ 31488 → i < 32 → c ≡ first_chunks 984 (length q / 984) q → get_or c i d ≡ slot_at q i
slot_in q i d c l h e = rw (e, l) (slot_is 32 q i d h)

pub before_is : (a b : List ℕ) (r : Bool) (p i o j : ℕ) → r ≡ bits_before p i o j → p ≡ number_at a 8 32 → i ≡ number_at a 8 24 → o ≡ number_at b 8 32 → j ≡ number_at b 8 24
    → r ≡ goes_before (entry_at a) (entry_at b)
unfolding bits_before dl_data_que_at
before_is a b r p i o j e f g h k = rw (e, f, g, h, k)

pub ruleset slots_at = (slot_in, before_is, arith)

module _ (q : List ℕ) where
  pub left_next : (i : ℕ) → 0 < i → i ≤ 32 → left q (i - 1) ≡ entry_in (slot_at q (i - 1)) ∷ left q i
  unfolding places_from
  left_next i h l =
      let e : 32 - (i - 1) ≡ suc (32 - i) = omega arith in
      let f : suc (i - 1) ≡ i = omega arith in
      rw (e, f)

  pub left_at : (i : ℕ) → i < 32 → left q i ≡ entry_in (slot_at q i) ∷ left q (i + 1)
  unfolding places_from
  left_at i l =
      let e : 32 - i ≡ suc (32 - (i + 1)) = omega arith in
      let f : suc i ≡ i + 1 = omega arith in
      rw (e, f)

  pub left_none : left q 32 ≡ []
  unfolding places_from
  left_none = refl

  -- the first that passes
  module _ (test : Option Entry → Bool) where
    abbrev pub Passes : ℕ → Type 0
    Passes i = test (entry_in (slot_at q i)) ≡ true

    abbrev pub Fails : ℕ → Type 0
    Fails i = test (entry_in (slot_at q i)) ≡ false

    place_is : (i : ℕ) → i < 32 → get_or (queue_at q) i None ≡ entry_in (slot_at q i)
    place_is i h = rw zero-add at (place_at q 0 32 i h)

    pub first_is : (r : Option ℕ) → MatchOption r ((k : ℕ) → 0 ≤ k → k < 32 → Fails k) (λ i. (0 ≤ i) × (i < 32) × Passes i × ((k : ℕ) → 0 ≤ k → k < i → Fails k)) → r ≡ first_place test (queue_at q)
    first_is None m =
        sym (missed test (queue_at q) (λ i h. let l : i < 32 = omega (arith, places_many q 0 32) in ap test (place_is i l) ∙ m i (omega arith) l))
    first_is (Some i) m =
        let l : i < 32 = m.1 in
        sym (first_at test (queue_at q) i (omega (arith, places_many q 0 32)) (ap test (place_is i l) ∙ m.2) (λ k h. ap test (place_is k (omega arith)) ∙ m.3 k (omega arith) h))
