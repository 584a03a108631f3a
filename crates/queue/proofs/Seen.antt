-- A call on a store is the step on the queue in it: the store afterwards has the queue that the step gives, and the call is refused exactly if the step does
-- nothing. A call that is refused leaves the store as it was. By the cases of each call. Assumes nothing.
use mathlib.Core.{Path.◌≡◌, Path.refl}
use mathlib.Core.{Bool.Bool, Bool.true, List.List}
use Prim.Native.Nat.{ℕ}
use lib.{IntN.ℤ, Dec.eqb, ListN.length}
use Rattle.record.specs.declared.{DlDataQue.DlDataQue, Body.Body, Message.Message}
use Rattle.record.specs.Fits.{fits}
use Rattle.queue.specs.Entry.{is_suitable}
use Rattle.queue.specs.Queue.{has_id, is_free, place_of_id, free_place, chosen}
use Rattle.queue.specs.Store.{store_size, entry_of, queue_at}
use Rattle.queue.specs.Calls.{Queued, refusal_in, adds_at, downlink_in, adds, cancels, chooses}
use Rattle.queue.specs.Run.{Call, Stepped, step, is_done}
use Rattle.queue.proofs.{Cases.by_place, Cases.by_test, Cases.by_places, Reached.place_inside, Reached.found_inside, Calling.is_store, Freeing.queue_freed, Storing.queue_stored}

-- what a call answers and leaves, and what a step does and gives
pub record Seen {A : Type 0} (a : Queued A) (s : Stepped) : Type 0 where
  pub queue : queue_at a.store ≡ s.queue
  pub done : eqb (refusal_in a.answer) 0 ≡ is_done s.did

module _ (q : List ℕ) (long : length q ≡ store_size) where
  pub seen_cancel : (id : ℕ) → Seen (cancels q id) (step (queue_at q) (Call.cancel id))
  unfolding cancels step
  seen_cancel id =
      rw (is_store q long) (by_places Seen (place_of_id id (queue_at q)) _ _ _ _ (λ i e. record { queue = queue_freed q i long (place_inside q 0 32 (has_id id) i e); done = refl }) (record { queue = refl; done = refl }))

  pub seen_choose : (eui k : ℕ) (expected : Bool) → Seen (chooses q eui k expected) (step (queue_at q) (Call.choose eui k expected))
  unfolding chooses step
  seen_choose eui k b =
      rw (is_store q long)
      (by_places Seen (chosen eui k b (queue_at q)) _ _ _ _ (λ f e. record { queue = queue_freed q f.place long (found_inside q 0 32 (is_suitable eui k b) f e); done = refl }) (record { queue = refl; done = refl }))

  -- a record of dlDataQue that may be written
  module _ (z : ℤ) (x : DlDataQue) (d : List ℕ) (fit : fits (record { op_id = z; body = Body.DlDataQue x }) d ≡ true) where
    abbrev m : Message
    m = record { op_id = z; body = Body.DlDataQue x }

    pub seen_fit : Seen (adds_at q m x d) (step (queue_at q) (Call.add (entry_of x d)))
    unfolding step
    seen_fit =
        by_places Seen (place_of_id x.que_id (queue_at q)) _ _ _ _ (λ i e. record { queue = refl; done = refl })
        (by_places Seen (free_place (queue_at q)) _ _ _ _ (λ i e. record { queue = queue_stored z x d fit q i long (place_inside q 0 32 is_free i e); done = refl }) (record { queue = refl; done = refl }))

    pub seen_add : Seen (adds q m d) (step (queue_at q) (Call.add (entry_of x d)))
    unfolding adds
    seen_add = rw (is_store q long, fit) seen_fit

-- refused
abbrev Keeps : {A : Type 0} → List ℕ → Queued A → Type 0
Keeps q a = (refusal_in a.answer ≡ 0 → ⊥) → a.store ≡ q

module _ (q : List ℕ) where
  pub refused_cancel : (id : ℕ) → Keeps q (cancels q id)
  unfolding cancels
  refused_cancel id = by_test (Keeps q) (eqb (length q) store_size) _ _ (λ l. by_place (Keeps q) (place_of_id id (queue_at q)) _ _ (λ i e n. absurd (n refl)) (λ e n. refl)) (λ l n. refl)

  pub refused_choose : (eui k : ℕ) (expected : Bool) → Keeps q (chooses q eui k expected)
  unfolding chooses
  refused_choose eui k b =
      by_test (Keeps q) (eqb (length q) store_size) _ _ (λ l. by_place (Keeps q) (chosen eui k b (queue_at q)) _ _ (λ f e n. absurd (n refl)) (λ e n. refl)) (λ l n. refl)

  pub refused_add : (m : Message) (d : List ℕ) → Keeps q (adds q m d)
  unfolding adds
  refused_add m d =
      by_test (Keeps q) (eqb (length q) store_size) _ _
      (λ l. by_place (Keeps q) (downlink_in m.body) _ _
      (λ x b. by_test (Keeps q) (fits m d) _ _
      (λ f. by_place (Keeps q) (place_of_id x.que_id (queue_at q)) _ _ (λ i e n. refl) (λ e. by_place (Keeps q) (free_place (queue_at q)) _ _ (λ i g n. absurd (n refl)) (λ g n. refl)))
      (λ f n. refl)) (λ b n. refl)) (λ l n. refl)
