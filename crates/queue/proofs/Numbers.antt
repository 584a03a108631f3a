-- Prios are numbers: of a record that may be written, and so of each entry of a sound store. So on any store that calls make, what is chosen has the highest prio
-- of all that is suitable, then the smallest ID. Assumes nothing.
use mathlib.Core.{Path.◌≡◌, Path.refl, Path.sym, Path.subst, Path.◌∙◌}
use Rattle.std.specs.Prelude.{Some, None}
use mathlib.Core.{Bool.Bool, Bool.true, Bool.false, List.List, List.[]}
use Prim.Native.Nat.{ℕ}
use native.Mathlib.Nat.{zero-add}
use native.Mathlib.Omega.{arith}
use lib.{IntN.ℤ, Dec.ltb, ListN.drop, ListN.get_or, ListN.get_or-eq_default}
use borrow.Author.Tests.{ltb-true, ltb-false}
use Rattle.record.specs.{declared.DlDataQue.DlDataQue, declared.Body.Body, Fits.fits}
use Rattle.layout.specs.Taken.{signed_at, dl_data_que_at, message_at}
use Rattle.queue.specs.Entry.{Entry, is_suitable, goes_before}
use Rattle.queue.specs.{Queue.Found, Queue.chosen, Store.slot_at, Store.entry_of, Store.entry_in, Store.queue_at, Store.is_whole, Store.is_sound, Run.is_real, Run.AreReal, Run.add_real, Run.after}
use Rattle.queue.proofs.{Fitting.prio_real, Reached.places_many, Reached.place_at, Reached.entry_is, Changed.wholes_are, Shows.downlink_fits, Lasting.parts, Highest.higher_first}
use Rattle.queue.proofs.Cases.{none_some}

pub fit_real : (z : ℤ) (x : DlDataQue) (d : List ℕ) → fits (record { op_id = z; body = Body.DlDataQue x }) d ≡ true → is_real (entry_of x d) ≡ true
fit_real z x d f = let r = prio_real z x d f in rw (r.0, r.1)

module _ (q : List ℕ) (sound : is_sound q ≡ true) where
  -- a place of the store
  slot_real : (s : List ℕ) (e : Entry) → is_whole s ≡ true → entry_in s ≡ Some e → is_real e ≡ true
  unfolding is_whole
  slot_real s e w h =
      let t = entry_is s e h in
      let f : fits (message_at s) (drop 104 s) ≡ true = rw t.0 at w in
      subst (λ (a : Entry). is_real a ≡ true) t.1 (fit_real (signed_at s 8 0) (dl_data_que_at s) (drop 104 s) (downlink_fits s (drop 104 s) t.0 f))

  pub sound_real : AreReal (queue_at q)
  sound_real i e h = go (ltb i 32) refl
    where
      go : (b : Bool) → ltb i 32 ≡ b → is_real e ≡ true
      go true l =
          let few = ltb-true i 32 l in
          slot_real (slot_at q i) e (rw zero-add at (wholes_are q 0 32 (parts q sound).whole i few)) (rw zero-add at (sym (place_at q 0 32 i few) ∙ h))
      go false l = none_some (sym (get_or-eq_default (queue_at q) None (omega (arith, ltb-false i 32 l, places_many q 0 32))) ∙ h)

  pub sound_first : (eui k : ℕ) (expected : Bool) (f : Found) → chosen eui k expected (queue_at q) ≡ Some f → (i : ℕ) (e : Entry) → get_or (queue_at q) i None ≡ Some e → is_suitable eui k expected e ≡ true
      → goes_before e f.entry ≡ false
  unfolding after add_real
  sound_first eui k b f h i e t s = higher_first (queue_at q) [] sound_real refl eui k b f h i e t s
