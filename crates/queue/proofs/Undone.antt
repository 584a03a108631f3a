-- Adding an entry and cancelling its ID leaves the queue as it was, if the ID was not there: it is found at the place that it took, which was free. Assumes nothing.
use mathlib.Core.{Path.◌≡◌, Path.refl, Path.sym, Path.ap, Path.◌∙◌, Bool.true, List.[], List.◌∷◌}
use Rattle.std.specs.Prelude.{Option, Some, None}
use Prim.Native.Nat.{ℕ}
use lib.{ListN.get_or, Seq.set-set, Seq.set-get_or}
use borrow.Author.Tests.{eq-eqb}
use Rattle.octets.proofs.Ranges.{true_false}
use Rattle.queue.specs.Entry.{Entry}
use Rattle.queue.specs.Queue.{Queue, has_id, is_free, on_place, place_of_id, free_place, entered}
use Rattle.queue.specs.Run.{Call, Did, Stepped, stepped, step, after}
use Rattle.queue.proofs.{Cases.by_place, Places.passes, Places.only_place}

free_none : (x : Option Entry) → is_free x ≡ true → x ≡ None
free_none None p = refl
free_none (Some e) p = true_false (sym p)

module _ (q : Queue) (e : Entry) (new : place_of_id e.asks.que_id q ≡ None) where
  -- at its place
  taken_back : (i : ℕ) → free_place q ≡ Some i → (step (entered q i e) (Call.cancel e.asks.que_id)).queue ≡ q
  unfolding step
  taken_back i h =
      let s = passes is_free q i h in
      rw (only_place (has_id e.asks.que_id) q i (Some e) s.0 new (eq-eqb e.asks.que_id e.asks.que_id refl))
      (set-set q i (Some e) None ∙ rw (free_none (get_or q i None) s.1) at (set-get_or q i None))

  abbrev cancelled : Stepped → Queue
  cancelled s = (step s.queue (Call.cancel e.asks.que_id)).queue

  is_added : step q (Call.add e) ≡ on_place (free_place q) (λ i. stepped (Did.added e.asks.que_id) (entered q i e)) (stepped Did.nothing q)
  unfolding step
  is_added = rw new

  not_there : step q (Call.cancel e.asks.que_id) ≡ stepped Did.nothing q
  unfolding step
  not_there = rw new

  pub undone : after q (Call.add e ∷ Call.cancel e.asks.que_id ∷ []) ≡ q
  unfolding after
  undone = ap cancelled is_added ∙ by_place (λ s. cancelled s ≡ q) (free_place q) _ _ taken_back (λ h. ap (λ (s : Stepped). s.queue) not_there)
