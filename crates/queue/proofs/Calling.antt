-- The calls by the code's tests: a store of another length, a place that is not found, and one that is. Each law in the shape of a need of the code. Assumes nothing.
use mathlib.Core.{Path.◌≡◌, Path.refl, Path.sym, Path.ap, Path.ap₂, Path.◌∙◌}
use Rattle.std.specs.Prelude.{Option, Some, None, Ok, Err}
use mathlib.Core.{Bool.Bool, List.List, List.[], List.◌∷◌}
use Prim.Native.Nat.{ℕ, ◌+◌, ◌*◌, ◌<◌}
use native.Mathlib.Nat.{zero-add}
use native.Mathlib.Omega.{arith}
use lib.ListN.{length, set}
use borrow.Author.Tests.{eq-eqb, ne_eqb}
use Rattle.octets.proofs.Writing.{put_one, length_put}
use Rattle.refusal.specs.declared.Refusal.TheVariants.{Invalid, NoQueueId, NothingSuitable}
use Rattle.queue.specs.declared.Chosen.{Chosen}
use Rattle.queue.specs.Entry.{Entry, is_suitable, piece_for}
use Rattle.queue.specs.Queue.{Found, has_id, on_place, first_place, place_of_id, chosen}
use Rattle.queue.specs.Store.{slot_at, queue_at}
use Rattle.queue.specs.Calls.{Queued, queued, refuses, shown_at, on_store, freed_at, cancels, chooses}
use Rattle.queue.specs.Code.Slots.{entry_at, found_from}
use Rattle.queue.proofs.{Cases.some_is, Cases.none_some, Reached.place_inside, Reached.found_inside, Reached.chosen_entry}

-- a place of the store
module _ (q : List ℕ) (i : ℕ) where
  pub freed_is : length q ≡ 31488 → i < 32 → set q (984 * i + 8) 0 ≡ freed_at q i
  freed_is e h = put_one q (984 * i + 8) 0 (omega arith)

  pub freed_long : (e : List ℕ) → e ≡ freed_at q i → length e ≡ length q
  freed_long e h = ap length h ∙ length_put q (984 * i + 8) (0 ∷ [])

pub ruleset places = (freed_is, freed_long)

-- another length
module _ (q : List ℕ) (n : length q ≡ 31488 → ⊥) where
  pub no_store : {A : Type 0} (f : Unit {0} → Queued A) → ◌≡◌ {A = Queued A} (refuses Invalid q) (on_store q f)
  no_store f = rw (ne_eqb (length q) 31488 n)

  pub no_cancel : (id : ℕ) → ◌≡◌ {A = Queued ℕ} (queued (Err Invalid) q) (cancels q id)
  unfolding cancels
  no_cancel id = no_store _

  pub no_choice : (eui k : ℕ) (b : Bool) → ◌≡◌ {A = Queued Chosen} (queued (Err Invalid) q) (chooses q eui k b)
  unfolding chooses
  no_choice eui k b = no_store _

pub ruleset sizes = (no_cancel, no_choice)

-- a place that is found is one of the store
pub first_in : (q : List ℕ) (test : Option Entry → Bool) (o : Option ℕ) → o ≡ first_place test (queue_at q) → (i : ℕ) → o ≡ Some i → i < 32
first_in q test o e i h = place_inside q 0 32 test i (sym e ∙ h)

pub best_inside : (q : List ℕ) (eui k : ℕ) (b : Bool) (o : Option ℕ) → o ≡ found_from 0 (chosen eui k b (queue_at q)) → (i : ℕ) → o ≡ Some i → i < 32
best_inside q eui k b o e i h = go (chosen eui k b (queue_at q)) refl (sym h ∙ e)
  where
    go : (c : Option Found) → chosen eui k b (queue_at q) ≡ c → Some i ≡ found_from 0 c → i < 32
    go None c p = none_some (sym p)
    go (Some f) c p = let z : i ≡ 0 + f.place = some_is p in omega (arith, found_inside q 0 32 (is_suitable eui k b) f c)

module _ (q : List ℕ) (long : length q ≡ 31488) where
  pub is_store : {A : Type 0} (f : Unit {0} → Queued A) → on_store q f ≡ f tt
  is_store f = rw (eq-eqb (length q) 31488 long)

  -- the place where a test first passes, or none
  module _ (test : Option Entry → Bool) (o : Option ℕ) (e : o ≡ first_place test (queue_at q)) where
    module _ {B : Type 0} (f : ℕ → B) (b : B) where
      pub no_place : o ≡ None → on_place (first_place test (queue_at q)) f b ≡ b
      no_place h = rw (← e, h)

      pub one_place : (i : ℕ) → o ≡ Some i → on_place (first_place test (queue_at q)) f b ≡ f i
      one_place i h = rw (← e, h)

  -- cancel, where w is the store as an array
  module _ (w : List ℕ) (same : w ≡ q) (id : ℕ) (o : Option ℕ) (g : o ≡ place_of_id id (queue_at w)) where
    known : o ≡ place_of_id id (queue_at q)
    known = rw same at g

    pub unknown : o ≡ None → ◌≡◌ {A = Queued ℕ} (queued (Err NoQueueId) w) (cancels q id)
    unfolding cancels
    unknown h = ap (λ (l : List ℕ). queued (Err NoQueueId) l) same ∙ sym (is_store _ ∙ no_place (has_id id) o known _ _ h)

    pub cancelled : (i : ℕ) (f : List ℕ) → o ≡ Some i → f ≡ freed_at w i → ◌≡◌ {A = Queued ℕ} (queued (Ok i) f) (cancels q id)
    unfolding cancels
    cancelled i f h p = ap (λ (l : List ℕ). queued (Ok i) l) (p ∙ ap (λ (l : List ℕ). freed_at l i) same) ∙ sym (is_store _ ∙ one_place (has_id id) o known _ _ i h)

  -- choose
  module _ (w : List ℕ) (same : w ≡ q) (eui k : ℕ) (b : Bool) (o : Option ℕ) (y : o ≡ found_from 0 (chosen eui k b (queue_at w))) where
    told : o ≡ found_from 0 (chosen eui k b (queue_at q))
    told = rw same at y

    abbrev test : Entry → Bool
    test = is_suitable eui k b

    module _ {B : Type 0} (g : Found → B) (z : B) where
      no_found : o ≡ None → on_place (chosen eui k b (queue_at q)) g z ≡ z
      no_found h = go (chosen eui k b (queue_at q)) (sym h ∙ told)
        where
          go : (c : Option Found) → None ≡ found_from 0 c → on_place c g z ≡ z
          go None p = refl
          go (Some f) p = none_some p

      is_found : (i : ℕ) (f : Found) → chosen eui k b (queue_at q) ≡ Some f → i ≡ f.place → f ≡ record { place = i; entry = entry_at (slot_at q i) }
      is_found i f c p =
          λ j. record { place = sym p j; entry = (sym (chosen_entry q test f c).1 ∙ ap (λ (x : ℕ). entry_at (slot_at q x)) (sym p)) j }

      one_found : (i : ℕ) → o ≡ Some i → on_place (chosen eui k b (queue_at q)) g z ≡ g (record { place = i; entry = entry_at (slot_at q i) })
      one_found i h = go (chosen eui k b (queue_at q)) refl (sym h ∙ told)
        where
          go : (c : Option Found) → chosen eui k b (queue_at q) ≡ c → Some i ≡ found_from 0 c → on_place c g z ≡ g (record { place = i; entry = entry_at (slot_at q i) })
          go None c p = none_some (sym p)
          go (Some f) c p = ap g (is_found i f c (some_is p ∙ zero-add f.place))

    pub unsuitable : o ≡ None → ◌≡◌ {A = Queued Chosen} (queued (Err NothingSuitable) w) (chooses q eui k b)
    unfolding chooses
    unsuitable h = ap (λ (l : List ℕ). queued (Err NothingSuitable) l) same ∙ sym (is_store _ ∙ no_found _ _ h)

    pub chose : (i : ℕ) (s : List ℕ) (a : Chosen) (f : List ℕ) → o ≡ Some i → s ≡ slot_at w i → a ≡ shown_at i (piece_for k (entry_at s)) (entry_at s).lengths → f ≡ freed_at w i
        → ◌≡◌ {A = Queued Chosen} (queued (Ok a) f) (chooses q eui k b)
    unfolding chooses
    chose i s a f h t p r =
        let z : s ≡ slot_at q i = t ∙ ap (λ (l : List ℕ). slot_at l i) same in
        ap₂ (λ (x : Chosen) (l : List ℕ). queued (Ok x) l) (p ∙ ap (λ (l : List ℕ). shown_at i (piece_for k (entry_at l)) (entry_at l).lengths) z) (r ∙ ap (λ (l : List ℕ). freed_at l i) same)
        ∙ sym (is_store _ ∙ one_found _ _ i h)

pub ruleset calls = (places, sizes, first_in, unknown, cancelled, best_inside, unsuitable, chose, arith)
