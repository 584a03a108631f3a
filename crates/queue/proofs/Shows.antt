-- What choose answers on a sound store shows the chosen entry's data for that counter: behind the record of its place, within the lent bytes, and still there
-- after the call, which changes the place's command alone. Assumes nothing.
use mathlib.Core.{Path.◌≡◌, Path.refl, Path.sym, Path.ap, Path.subst, Path.◌∙◌}
use Rattle.std.specs.Prelude.{Some, Ok}
use mathlib.Core.{Bool.Bool, Bool.true, Bool.false, List.List, List.[], List.◌∷◌}
use Prim.Native.Nat.{ℕ, zero, suc, ◌+◌, ◌*◌, ◌≤◌, ◌<◌}
use native.Mathlib.Nat.{zero-add}
use native.Mathlib.Omega.{arith}
use lib.{IntN.ℤ, Dec.eqb, ListN.length, ListN.take, ListN.drop, ListN.get_or}
use lib.Seq.{take-nil, take-take, drop-drop}
use borrow.Author.Tests.{eqb-true}
use Rattle.octets.specs.{Choice.either, Pieces.cut_by, Pieces.sum_of}
use Rattle.octets.proofs.{Ranges.true_false, Writing.put_behind}
use Rattle.message.specs.Fields.{lists, list_in}
use Rattle.saying.specs.Says.{part_in}
use Rattle.record.specs.declared.{Body.Body}
use Rattle.record.specs.{Says.sayings_of, Fits.first_fault, Fits.fault_in, Fits.fits}
use Rattle.layout.specs.Taken.{marks_of, number_at, signed_at, are_marks, dl_data_que_at, body_at, message_at}
use Rattle.queue.specs.Entry.{Entry, is_suitable, piece_for, data_for}
use Rattle.queue.specs.{Queue.Found, Queue.chosen, Store.store_size, Store.slot_at, Store.is_used, Store.queue_at, Store.is_whole, Store.is_sound}
use Rattle.queue.specs.declared.Chosen.{Chosen}
use Rattle.queue.specs.Calls.{Queued, queued, refusal_in, shown_at, freed_at, chooses}
use Rattle.queue.specs.Code.Slots.{entry_at}
use Rattle.queue.proofs.{Cases.by_place, Cases.by_test, Reached.found_inside, Reached.chosen_entry, Calling.is_store, Fitting.entries_together, Changed.wholes_are, Lasting.Parts, Lasting.parts}

-- an answer that shows an entry's data for a counter
pub record Shown (k : ℕ) (f : Found) (a : Queued Chosen) : Type 0 where
  pub chosen : Chosen
  pub done : a.answer ≡ Ok chosen
  pub place : chosen.place ≡ f.place
  pub inside : chosen.from + chosen.size ≤ 880
  pub bytes : take chosen.size (drop (984 * f.place + 104 + chosen.from) a.store) ≡ data_for k f.entry

-- a piece of bytes that are cut
piece_at : (ns d : List ℕ) (j : ℕ) → get_or (cut_by ns d) j [] ≡ take (get_or ns j 0) (drop (sum_of (take j ns)) d)
unfolding cut_by sum_of
piece_at [] d j = refl
piece_at (n ∷ ns) d zero = refl
piece_at (n ∷ ns) d (suc j) = piece_at ns (drop n d) j ∙ ap (take (get_or ns j 0)) (drop-drop (sum_of (take j ns)) n d)

piece_within : (ns : List ℕ) (j : ℕ) → sum_of (take j ns) + get_or ns j 0 ≤ sum_of ns
unfolding sum_of
piece_within [] j = rw (take-nil j) (omega arith)
piece_within (n ∷ ns) zero = omega arith
piece_within (n ∷ ns) (suc j) = omega (arith, piece_within ns j)

part_within : (n z m : ℕ) (l : List ℕ) → n + z ≤ m → take z (drop n (take m l)) ≡ take z (drop n l)
part_within zero z m l h = take-take z m l (omega arith)
part_within (suc n) z zero l h = absurd (omega arith)
part_within (suc n) z (suc m) [] h = refl
part_within (suc n) z (suc m) (b ∷ l) h = part_within n z m l (omega arith)

-- a place whose record may be written has a downlink's
bare_refused : (z : ℤ) (d : List ℕ) → fault_in (record { op_id = z; body = Body.Bare 21 }) d ≡ 1
unfolding fault_in first_fault lists list_in sayings_of part_in
bare_refused z d = refl

module _ (s d : List ℕ) (u : is_used s ≡ true) (fit : fits (message_at s) d ≡ true) where
  command_is : number_at s 1 8 ≡ 21
  command_is = eqb-true (number_at s 1 8) 21 u

  message_is : message_at s ≡ record { op_id = signed_at s 8 0; body = either (are_marks s (marks_of 21)) (λ _. Body.DlDataQue (dl_data_que_at s)) (λ _. Body.Bare 21) }
  unfolding message_at body_at
  message_is = rw command_is

  pub downlink_fits : fits (record { op_id = signed_at s 8 0; body = Body.DlDataQue (dl_data_que_at s) }) d ≡ true
  downlink_fits = go (are_marks s (marks_of 21)) (rw message_is at fit)
    where
      go : (b : Bool) → fits (record { op_id = signed_at s 8 0; body = either b (λ _. Body.DlDataQue (dl_data_que_at s)) (λ _. Body.Bare 21) }) d ≡ true
          → fits (record { op_id = signed_at s 8 0; body = Body.DlDataQue (dl_data_que_at s) }) d ≡ true
      go true f = f
      go false f = true_false (sym (rw (bare_refused (signed_at s 8 0) d) at f))

-- a counter's data of an entry, in the store and after the place is freed
abbrev from : ℕ → Entry → ℕ
from k e = 80 + sum_of (take (piece_for k e) e.lengths)

abbrev size : ℕ → Entry → ℕ
size k e = get_or e.lengths (piece_for k e) 0

module _ (q : List ℕ) (i k : ℕ) (long : length q ≡ 31488) (few : i < 32) where
  behind_command : (n : ℕ) → drop (984 * i + 104 + n) (freed_at q i) ≡ drop (984 * i + 104 + n) q
  behind_command n =
      let e : 984 * i + 104 + n ≡ 984 * i + 8 + 1 + (95 + n) = omega arith in
      rw e
      (sym (drop-drop (95 + n) (984 * i + 8 + 1) (freed_at q i)) ∙ ap (drop (95 + n)) (put_behind q (984 * i + 8) (0 ∷ []) (omega arith)) ∙ drop-drop (95 + n) (984 * i + 8 + 1) q)

  piece_there : (ns : List ℕ) (j : ℕ) → 80 + sum_of (take j ns) + get_or ns j 0 ≤ 880
      → take (get_or ns j 0) (drop (984 * i + 104 + (80 + sum_of (take j ns))) (freed_at q i)) ≡ get_or (cut_by ns (drop 80 (drop 104 (slot_at q i)))) j []
  unfolding slot_at
  piece_there ns j h =
      let x = sum_of (take j ns) in
      let z = get_or ns j 0 in
      let o : 984 * i + 104 + (80 + x) ≡ 984 * i + (104 + (80 + x)) = omega arith in
      let a : drop (984 * i + 104 + (80 + x)) (freed_at q i) ≡ drop (104 + (80 + x)) (drop (984 * i) q)
      = behind_command (80 + x) ∙ rw o (sym (drop-drop (104 + (80 + x)) (984 * i) q)) in
      let b : drop x (drop 80 (drop 104 (slot_at q i))) ≡ drop (104 + (80 + x)) (slot_at q i) = drop-drop x 80 (drop 104 (slot_at q i)) ∙ drop-drop (80 + x) 104 (slot_at q i) in
      ap (take z) a ∙ sym (piece_at ns (drop 80 (drop 104 (slot_at q i))) j ∙ ap (take z) b ∙ part_within (104 + (80 + x)) z 984 (drop (984 * i) q) (omega arith))

  stands_there : (e : Entry) → entry_at (slot_at q i) ≡ e → from k e + size k e ≤ 880 → take (size k e) (drop (984 * i + 104 + from k e) (freed_at q i)) ≡ data_for k e
  stands_there e p = subst (λ (e : Entry). from k e + size k e ≤ 880 → take (size k e) (drop (984 * i + 104 + from k e) (freed_at q i)) ≡ data_for k e) p
      (piece_there (entry_at (slot_at q i)).lengths (piece_for k (entry_at (slot_at q i))))

module _ (q : List ℕ) (sound : is_sound q ≡ true) (eui k : ℕ) (expected : Bool) (f : Found) (h : chosen eui k expected (queue_at q) ≡ Some f) where
  p : Parts q
  p = parts q sound

  -- the place and its entry
  inside : f.place < 32
  inside = found_inside q 0 32 (is_suitable eui k expected) f h

  there : (is_used (slot_at q f.place) ≡ true) × (entry_at (slot_at q f.place) ≡ f.entry)
  there = chosen_entry q (is_suitable eui k expected) f h

  fit : fits (message_at (slot_at q f.place)) (drop 104 (slot_at q f.place)) ≡ true
  unfolding is_whole
  fit = rw there.0 at (rw zero-add at (wholes_are q 0 32 p.whole f.place inside))

  together : sum_of f.entry.lengths ≤ 800
  together =
      let s = slot_at q f.place in
      omega (arith, entries_together (signed_at s 8 0) (dl_data_que_at s) (drop 104 s) (downlink_fits s (drop 104 s) there.0 fit), ap (λ (e : Entry). sum_of e.lengths) there.1)

  within : from k f.entry + size k f.entry ≤ 880
  within = omega (arith, together, piece_within f.entry.lengths (piece_for k f.entry))

  answered : chooses q eui k expected ≡ queued (Ok (shown_at f.place (piece_for k f.entry) f.entry.lengths)) (freed_at q f.place)
  unfolding chooses
  answered = is_store q p.long _ ∙ rw h

  shown : Shown k f (chooses q eui k expected)
  shown = rw answered (record { chosen = shown_at f.place (piece_for k f.entry) f.entry.lengths; done = refl; place = refl; inside = within; bytes = stands_there q f.place k p.long inside f.entry there.1 within })

-- of an answer without a refusal
module _ (q : List ℕ) (eui k : ℕ) (expected : Bool) where
  abbrev One : Queued Chosen → Type 0
  One a = refusal_in a.answer ≡ 0 → (f : Found) × (chosen eui k expected (queue_at q) ≡ Some f)

  one_chosen : One (chooses q eui k expected)
  unfolding chooses
  one_chosen =
      by_test One (eqb (length q) store_size) _ _ (λ l. by_place One (chosen eui k expected (queue_at q)) _ _ (λ f h n. (f, h)) (λ h n. absurd (omega arith))) (λ l n. absurd (omega arith))

  pub shows : is_sound q ≡ true → refusal_in (chooses q eui k expected).answer ≡ 0 → (f : Found) × (chosen eui k expected (queue_at q) ≡ Some f) × Shown k f (chooses q eui k expected)
  shows s n = let one = one_chosen n in (one.0, one.1, shown q s eui k expected one.0 one.1)
