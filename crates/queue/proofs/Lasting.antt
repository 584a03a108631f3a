-- A sound store stays sound through every call: a place that is freed has nothing to judge, one that is taken has a record
-- that may be written, and IDs stay unique as in the queue. Assumes nothing.
use mathlib.Core.{Path.◌≡◌, Path.sym, Path.ap, Path.subst}
use Rattle.std.specs.Prelude.{Some, None}
use mathlib.Core.{Bool.Bool, Bool.true, Bool.◌&&◌, List.List}
use Prim.Native.Nat.{ℕ, ◌<◌}
use native.Mathlib.Omega.{arith}
use lib.{IntN.ℤ, Dec.eqb, ListN.length}
use borrow.Author.Tests.{eqb-true, eq-eqb}
use Rattle.octets.proofs.Truth.{both}
use Rattle.record.specs.declared.{DlDataQue.DlDataQue, Body.Body, Message.Message}
use Rattle.record.specs.Fits.{fits}
use Rattle.queue.specs.Entry.{Entry, is_suitable}
use Rattle.queue.specs.Queue.{Queue, has_id, is_free, place_of_id, free_place, chosen, entered, freed, are_unlike}
use Rattle.queue.specs.Store.{store_size, entry_of, queue_at, are_whole, is_sound}
use Rattle.queue.specs.Calls.{Queued, freed_at, stored_at, downlink_in, adds, cancels, chooses}
use Rattle.queue.specs.Run.{Call, step}
use Rattle.queue.proofs.{Cases.by_place, Cases.by_test, Counted.count_set, Unique.unlike_once, Unique.once_unlike, Unique.unique_kept}
use Rattle.queue.proofs.{Changed.wholes_changed, Freeing.freed_changed, Freeing.freed_whole, Freeing.queue_freed, Storing.stored_changed, Storing.stored_whole, Storing.queue_stored}
use Rattle.queue.proofs.{Reached.places_many, Reached.place_inside, Reached.found_inside}
use Rattle.queue.proofs.Cases.{none_some, some_is}

pub record Parts (q : List ℕ) : Type 0 where
  pub long : length q ≡ 31488
  pub whole : are_whole q 0 32 ≡ true
  pub unlike : are_unlike (queue_at q) ≡ true

pub parts : (q : List ℕ) → is_sound q ≡ true → Parts q
parts q s =
    let a = both (eqb (length q) 31488) (are_whole q 0 32 && are_unlike (queue_at q)) s in
    let b = both (are_whole q 0 32) (are_unlike (queue_at q)) a.1 in
    record { long = eqb-true (length q) 31488 a.0; whole = b.0; unlike = b.1 }

pub sound : (q : List ℕ) → Parts q → is_sound q ≡ true
sound q p = rw (eq-eqb (length q) 31488 p.long, p.whole, p.unlike)

-- IDs stay unique
freed_unlike : (q : Queue) (i : ℕ) → are_unlike q ≡ true → i < length q → are_unlike (freed q i) ≡ true
freed_unlike q i u h = once_unlike (freed q i) (λ id. omega (arith, count_set id q i None h, unlike_once q u id))

entered_unlike : (q : Queue) (i : ℕ) (e : Entry) → are_unlike q ≡ true → place_of_id e.asks.que_id q ≡ None → free_place q ≡ Some i → are_unlike (entered q i e) ≡ true
unfolding step
entered_unlike q i e u n f = rw (n, f) at (unique_kept q u (Call.add e))

-- the record of a body that is a downlink
pub downlink_is : (b : Body) (x : DlDataQue) → downlink_in b ≡ Some x → b ≡ Body.DlDataQue x
downlink_is (Body.Con y) x e = none_some e
downlink_is (Body.ConRsp y) x e = none_some e
downlink_is (Body.StatusRsp y) x e = none_some e
downlink_is (Body.Det y) x e = none_some e
downlink_is (Body.DetRsp y) x e = none_some e
downlink_is (Body.AttPrp y) x e = none_some e
downlink_is (Body.DetPrp y) x e = none_some e
downlink_is (Body.UlData y) x e = none_some e
downlink_is (Body.DlDataQue y) x e = ap Body.DlDataQue (some_is e)
downlink_is (Body.Bare y) x e = none_some e

module _ (q : List ℕ) (s : is_sound q ≡ true) where
  p : Parts q
  p = parts q s

  freed_sound : (i : ℕ) → i < 32 → is_sound (freed_at q i) ≡ true
  freed_sound i h = sound (freed_at q i) (record {
    long = (freed_changed q i p.long h).same;
    whole = wholes_changed q (freed_at q i) i (freed_changed q i p.long h) p.whole (freed_whole q i p.long h);
    unlike = rw (queue_freed q i p.long h) (freed_unlike (queue_at q) i p.unlike (omega (arith, places_many q 0 32)));
  })

  abbrev Sound : {A : Type 0} → Queued A → Type 0
  Sound a = is_sound a.store ≡ true

  pub cancel_sound : (id : ℕ) → Sound (cancels q id)
  unfolding cancels
  cancel_sound id =
      by_test Sound (eqb (length q) store_size) _ _ (λ l. by_place Sound (place_of_id id (queue_at q)) _ _ (λ i e. freed_sound i (place_inside q 0 32 (has_id id) i e)) (λ e. s)) (λ l. s)

  pub choose_sound : (eui k : ℕ) (expected : Bool) → Sound (chooses q eui k expected)
  unfolding chooses
  choose_sound eui k b =
      by_test Sound (eqb (length q) store_size) _ _
      (λ l. by_place Sound (chosen eui k b (queue_at q)) _ _ (λ f e. freed_sound f.place (found_inside q 0 32 (is_suitable eui k b) f e)) (λ e. s)) (λ l. s)

  module _ (z : ℤ) (x : DlDataQue) (d : List ℕ) (fit : fits (record { op_id = z; body = Body.DlDataQue x }) d ≡ true) where
    abbrev m : Message
    m = record { op_id = z; body = Body.DlDataQue x }

    stored_sound : (i : ℕ) → place_of_id x.que_id (queue_at q) ≡ None → free_place (queue_at q) ≡ Some i → is_sound (stored_at q i m x d) ≡ true
    stored_sound i n f =
        let h : i < 32 = place_inside q 0 32 is_free i f in
        let c = stored_changed z x d fit q i p.long h in
        sound (stored_at q i m x d) (record {
          long = c.same;
          whole = wholes_changed q (stored_at q i m x d) i c p.whole (stored_whole z x d fit q i p.long h);
          unlike = rw (queue_stored z x d fit q i p.long h) (entered_unlike (queue_at q) i (entry_of x d) p.unlike n f);
        })

  add_as : (m : Message) (x : DlDataQue) (d : List ℕ) → m.body ≡ Body.DlDataQue x → fits m d ≡ true → (i : ℕ) → place_of_id x.que_id (queue_at q) ≡ None → free_place (queue_at q) ≡ Some i
      → is_sound (stored_at q i m x d) ≡ true
  add_as m x d e fit i n f =
      let same : record { op_id = m.op_id; body = Body.DlDataQue x } ≡ m = λ j. record { op_id = m.op_id; body = sym e j } in
      subst (λ (u : Message). fits u d ≡ true → is_sound (stored_at q i u x d) ≡ true) same (λ g. stored_sound m.op_id x d g i n f) fit

  pub add_sound : (m : Message) (d : List ℕ) → Sound (adds q m d)
  unfolding adds
  add_sound m d =
      by_test Sound (eqb (length q) store_size) _ _
      (λ l. by_place Sound (downlink_in m.body) _ _
      (λ x b. by_test Sound (fits m d) _ _
      (λ f. by_place Sound (place_of_id x.que_id (queue_at q)) _ _ (λ i e. s) (λ n. by_place Sound (free_place (queue_at q)) _ _ (λ i g. add_as m x d (downlink_is m.body x b) f i n g) (λ g. s)))
      (λ f. s)) (λ b. s)) (λ l. s)
