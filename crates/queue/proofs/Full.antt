-- A queue has no free place exactly if every place is used; so of a record that may be written and whose ID is not there, 28 is given exactly if all 32 are used.
-- By the laws of the first place that passes a test. Assumes nothing.
use mathlib.Core.{Path.◌≡◌, Path.refl, Path.sym, Path.ap, Path.◌∙◌, Logic.◌↔◌}
use Rattle.std.specs.Prelude.{Option, Some, None, Ok}
use mathlib.Core.{Bool.Bool, Bool.true, Bool.false, List.List}
use Prim.Native.Nat.{ℕ, ◌<◌}
use native.Mathlib.Nat.{zero-add}
use native.Mathlib.Omega.{arith}
use lib.{IntN.ℤ, ListN.length, ListN.get_or}
use Rattle.octets.specs.Choice.{either}
use Rattle.octets.proofs.Ranges.{true_false}
use Rattle.record.specs.declared.{DlDataQue.DlDataQue, Body.Body, Message.Message}
use Rattle.record.specs.Fits.{fits}
use Rattle.queue.specs.Queue.{Queue, is_free, on_place, place_of_id, free_place}
use Rattle.queue.specs.Store.{store_size, slot_at, is_used, entry_in, queue_at}
use Rattle.refusal.specs.declared.Refusal.TheVariants.{QueueFull}
use Rattle.queue.specs.Calls.{queued, refusal_in, refuses, stored_at, adds}
use Rattle.queue.specs.Code.Slots.{entry_at}
use Rattle.queue.proofs.{Places.fails, Places.missed, Reached.places_many, Reached.place_at, Calling.is_store}
use Rattle.queue.proofs.Cases.{none_some}

pub full : (q : Queue) → free_place q ≡ None ↔ ((i : ℕ) → i < length q → is_free (get_or q i None) ≡ false)
full q = (fails is_free q, missed is_free q)

-- a place of the store is free or used
free_used : (s : List ℕ) → is_free (entry_in s) ≡ false ↔ is_used s ≡ true
free_used s = go (is_used s)
  where
    go : (b : Bool) → is_free (either b (λ _. Some (entry_at s)) (λ _. None)) ≡ false ↔ b ≡ true
    go true = (λ e. refl, λ e. refl)
    go false = (λ e. true_false e, λ e. true_false (sym e))

module _ (q : List ℕ) (long : length q ≡ store_size) (z : ℤ) (x : DlDataQue) (d : List ℕ) where
  abbrev m : Message
  m = record { op_id = z; body = Body.DlDataQue x }

  module _ (fit : fits m d ≡ true) (new : place_of_id x.que_id (queue_at q) ≡ None) where
    answered : adds q m d ≡ on_place (free_place (queue_at q)) (λ i. queued (Ok i) (stored_at q i m x d)) (refuses QueueFull q)
    unfolding adds
    answered = is_store q long _ ∙ rw (fit, new)

    none_free : (o : Option ℕ) → refusal_in (on_place o (λ i. queued (Ok i) (stored_at q i m x d)) (refuses QueueFull q)).answer ≡ 28 ↔ o ≡ None
    none_free None = (λ e. refl, λ e. refl)
    none_free (Some i) = (λ e. absurd (omega arith), λ e. none_some (sym e))

    -- places of the queue and of the store
    free_at : (i : ℕ) → i < 32 → is_free (get_or (queue_at q) i None) ≡ is_free (entry_in (slot_at q i))
    free_at i h = ap is_free (rw zero-add at (place_at q 0 32 i h))

    pub full_refused : refusal_in (adds q m d).answer ≡ 28 ↔ ((i : ℕ) → i < 32 → is_used (slot_at q i) ≡ true)
    full_refused = (
      λ e i h. (free_used (slot_at q i)).0 (sym (free_at i h) ∙ (full (queue_at q)).0 ((none_free (free_place (queue_at q))).0 (rw answered at e)) i (omega (arith, places_many q 0 32))),
      λ f. rw answered
          ((none_free (free_place (queue_at q))).1
          ((full (queue_at q)).1 (λ i h. let l : i < 32 = omega (arith, places_many q 0 32) in free_at i l ∙ (free_used (slot_at q i)).1 (f i l)))),
    )
