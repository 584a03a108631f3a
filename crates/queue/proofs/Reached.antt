-- The places of a store as a queue: how many they are, which place stands where, what a used place has, and that
-- what is found is one of them. By induction over the places. Assumes nothing.
use mathlib.Core.{Path.◌≡◌, Path.refl, Path.sym, Path.ap, Path.◌∙◌}
use Rattle.std.specs.Prelude.{Option, Some, None}
use mathlib.Core.{Bool.Bool, Bool.true, Bool.false, List.List}
use Prim.Native.Nat.{ℕ, zero, suc, ◌+◌, ◌<◌}
use native.Mathlib.Nat.{zero-add, add-zero}
use native.Mathlib.Omega.{arith}
use lib.ListN.{length, get_or}
use Rattle.octets.specs.Choice.{either}
use Rattle.queue.specs.{Entry.Entry, Queue.Found, Queue.first_place, Queue.chosen_in, Store.queue_at, Store.slot_at, Store.is_used, Store.entry_in, Store.places_from, Code.Slots.entry_at}
use Rattle.queue.proofs.{Places.passes, Choosing.stands}
use Rattle.queue.proofs.Cases.{none_some, some_is}

pub places_many : (q : List ℕ) (i n : ℕ) → length (places_from q i n) ≡ n
unfolding places_from
places_many q i zero = refl
places_many q i (suc n) = ap suc (places_many q (suc i) n)

pub place_at : (q : List ℕ) (i n j : ℕ) → j < n → get_or (places_from q i n) j None ≡ entry_in (slot_at q (i + j))
unfolding places_from
place_at q i zero j h = absurd (omega arith)
place_at q i (suc n) zero h = rw add-zero
place_at q i (suc n) (suc j) h = let e : i + suc j ≡ suc i + j = omega arith in rw e (place_at q (suc i) n j (omega arith))

pub entry_is : (s : List ℕ) (e : Entry) → entry_in s ≡ Some e → (is_used s ≡ true) × (entry_at s ≡ e)
entry_is s e h = go (is_used s) h
  where
    go : (b : Bool) → either b (λ _. Some (entry_at s)) (λ _. None) ≡ Some e → (b ≡ true) × (entry_at s ≡ e)
    go true h = (refl, some_is h)
    go false h = none_some h

-- what is found among n places from the i-th on is one of them
module _ (q : List ℕ) (i n : ℕ) where
  pub place_inside : (test : Option Entry → Bool) (j : ℕ) → first_place test (places_from q i n) ≡ Some j → j < n
  place_inside test j e = omega (arith, (passes test (places_from q i n) j e).0, places_many q i n)

  module _ (test : Entry → Bool) (f : Found) (h : chosen_in test (places_from q i n) ≡ Some f) where
    pub found_inside : f.place < n
    found_inside = omega (arith, (stands test (places_from q i n) f h).inside, places_many q i n)

    pub found_entry : (is_used (slot_at q (i + f.place)) ≡ true) × (entry_at (slot_at q (i + f.place)) ≡ f.entry)
    found_entry = entry_is (slot_at q (i + f.place)) f.entry (sym (place_at q i n f.place found_inside) ∙ (stands test (places_from q i n) f h).there)

-- among all
module _ (q : List ℕ) (test : Entry → Bool) (f : Found) (h : chosen_in test (queue_at q) ≡ Some f) where
  pub chosen_entry : (is_used (slot_at q f.place) ≡ true) × (entry_at (slot_at q f.place) ≡ f.entry)
  chosen_entry = rw zero-add at (found_entry q 0 32 test f h)
