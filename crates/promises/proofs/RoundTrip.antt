-- Demand 2 on the room that a writer leaves: its first bytes are a whole frame of the length answered, whatever stands behind it, and reading it gives
-- the record that was written, with its count of elements and the bytes that it has lent. Once on records, once on the bytes of the C calls.
-- Assumes nothing.
use mathlib.Core.Path.{◌≡◌, refl, sym, ap, subst, ◌∙◌}
use mathlib.Core.{Bool.Bool, Bool.true, Bool.false, List.List, List.◌++◌, List.append_assoc}
use Prim.Native.Nat.{ℕ, ◌+◌, ◌-◌, ◌≤◌, ◌<◌}
use native.Mathlib.Omega.{arith}
use lib.{Dec.eqb, Dec.leb, Dec.lit<, ListN.length, ListN.drop, ListN.length-append}
use borrow.Author.Tests.{le-leb, leb-true}
use Rattle.octets.specs.{Choice.either, Bytes.IsBytes, Bytes.little_bytes, Bytes.put_at}
use Rattle.octets.proofs.{Ranges.is_true, Digits.length_little, Writing.put_in}
use Rattle.element.specs.Tree.{count_of}
use Rattle.std.specs.Prelude.{Ok}
use Rattle.frame.specs.Frame.{identifier, framed_of, payload_of, used_of}
use Rattle.frame.proofs.Format.{is_whole, is_payload}
use Rattle.saying.specs.Written.{frame_of}
use Rattle.record.specs.declared.Message.{Message}
use Rattle.record.specs.{Says.is_named, Fits.fits, Written.tree_for, Written.payload_for, Written.frame_for, Reading.Reading, Lent.lent_of}
use Rattle.record.specs.{Code.Places.answer_at}
use Rattle.record.specs.Meant.{Answered, answer_of, lent_size, Meant}
use Rattle.record.proofs.{Typed.Typed, Payloads.payload_some, Payloads.payload_short, Answered.answer_meant, Answers.read_frame}
use Rattle.reading.specs.declared.Unframed.{Unframed}
use Rattle.reading.specs.Framed.{answer_in, MeantFramed}
use Rattle.std.specs.Prelude.{Result, Ok, Err}
use Rattle.refusal.specs.declared.Refusal.{Refusal, TheVariants.Invalid, TheVariants.RoomTooShort}
use Rattle.writer.specs.Write.{Sent, sent, framed, written}
use Rattle.writer.proofs.Payloads.{fits_named}
use Rattle.layout.specs.{Image.message_size, Taken.message_at}
use Rattle.layout.proofs.Holds.{taken_typed, taken_back}
use Rattle.chozukpima.specs.Packed.{packed, refused_with, answer_refusal, answer_value, frame_answer}
use Rattle.chozukpima.specs.Messages.{filled, told_into, got, ReadInto, put_by, write_returns}
use Rattle.chozukpima.proofs.Kept.{refusal_back, value_back}
use Rattle.promises.specs.RoundTrip.{ReadBack}

-- a frame at the start of the room
module _ (m : Message) (d room : List ℕ) (fit : fits m d ≡ true) (enough : length (frame_for m d) ≤ length room) where
  abbrev payload : List ℕ
  payload = payload_for m d

  abbrev rest : List ℕ
  rest = drop (0 + length (frame_for m d)) room

  stands : written m d room ≡ sent (Ok (length (frame_for m d))) (put_at room 0 (frame_for m d))
  unfolding written framed
  stands = rw (fit, le-leb (length (frame_for m d)) (length room) enough)

  long : length (frame_for m d) ≡ 12 + length payload
  unfolding frame_of identifier
  long = omega (arith, length-append (little_bytes 4 (length payload)) payload, length_little 4 (length payload))

  short : length payload ≤ 1897
  short = payload_short m d fit

  opened : put_at room 0 (frame_for m d) ≡ identifier ++ (little_bytes 4 (length payload) ++ (payload ++ rest))
  unfolding frame_of
  opened =
      put_in room 0 (frame_for m d) (omega (arith, enough))
      ∙ append_assoc identifier (little_bytes 4 (length payload) ++ payload) rest
      ∙ ap (λ (l : List ℕ). identifier ++ l) (append_assoc (little_bytes 4 (length payload)) payload rest)

  whole : framed_of (put_at room 0 (frame_for m d)) ≡ Ok (length payload)
  whole = ap framed_of opened ∙ is_whole payload rest (payload_some m d fit) (omega (arith, short))

  part : payload_of (length payload) (put_at room 0 (frame_for m d)) ≡ payload
  part = ap (payload_of (length payload)) opened ∙ is_payload payload rest (payload_some m d fit) (omega (arith, short))

-- what was tested before a frame was written
record Passed (m : Message) (d room : List ℕ) : Type 0 where
  fit : fits m d ≡ true
  enough : length (frame_for m d) ≤ length room

module _ (m : Message) (d room : List ℕ) where
  -- by the two tests of a written frame
  by_tests : (P : Sent → Type 0) → P (written m d room) → (P (sent (Err Invalid) room) → ⊥) → (P (sent (Err RoomTooShort) room) → ⊥) → Passed m d room
  unfolding written framed
  by_tests P p q r = go (fits m d) refl (leb (length (frame_for m d)) (length room)) refl p
    where
      go : (a : Bool) → fits m d ≡ a → (b : Bool) → leb (length (frame_for m d)) (length room) ≡ b
          → P (either a (λ _. either b (λ _. sent (Ok (length (frame_for m d))) (put_at room 0 (frame_for m d))) (λ _. sent (Err RoomTooShort) room)) (λ _. sent (Err Invalid) room))
          → Passed m d room
      go true e true f p = record { fit = e; enough = leb-true (length (frame_for m d)) (length room) f }
      go true e false f p = absurd (r p)
      go false e b f p = absurd (q p)

refused_whole : (k : Refusal) (n : ℕ) → ◌≡◌ {A = Result ℕ Refusal} (Err k) (Ok n) → ⊥
refused_whole k n e = let z : ◌≡◌ {A = ℕ} 0 1 = cc in omega arith

-- what is written is read as the record that was written
pub written_read_back : (m : Message) (d room buffer : List ℕ) (n : ℕ) → Typed m → (written m d room).answer ≡ Ok n → lent_size ≤ length buffer
    → (r : Unframed) (e : List ℕ) → MeantFramed (written m d room).room buffer r e
    → (r.used ≡ n) × (answer_in r e ≡ answer_of (count_of (tree_for m d)) buffer (Reading.reads m (lent_of m d)))
written_read_back m d room buffer n t a l r e meant =
    let p = by_tests m d room (λ (s : Sent). s.answer ≡ Ok n) a (refused_whole Invalid n) (refused_whole RoomTooShort n) in
    let i = p.fit in
    let j = p.enough in
    let f = frame_for m d in
    let s = stands m d room i j in
    let w : Ok (length f) ≡ Ok n = sym (ap (λ (x : Sent). x.answer) s) ∙ a in
    let size : length f ≡ n = cc in
    let k : MeantFramed (put_at room 0 f) buffer r e = subst (λ (x : Sent). MeantFramed x.room buffer r e) s meant in
    let told = k.whole (length (payload_for m d)) (whole m d room i j) in (
      k.used ∙ ap used_of (whole m d room i j) ∙ sym (long m d room i j) ∙ size,
      read_frame m d i t buffer l (answer_in r e) (subst (λ (x : List ℕ). Meant x buffer (answer_in r e)) (part m d room i j) told),
    )

module _ (m d room : List ℕ) (bytes : IsBytes m) where
  abbrev own : Message
  own = message_at m

  module _ (fit : fits own d ≡ true) (enough : length (frame_for own d) ≤ length room) where
    abbrev f : List ℕ
    f = frame_for own d

    abbrev payload_of_lem : List ℕ
    payload_of_lem = payload_for own d

    size : answer_value (packed 0 0 (length f)) - 12 ≡ length payload_of_lem
    size =
        let l : length f ≡ 12 + length payload_of_lem = long own d room fit enough in
        let v : answer_value (packed 0 0 (length f)) ≡ length f = value_back (length f) (omega (arith, short own d room fit enough)) in
        omega arith

    payload_is : payload_of (answer_value (packed 0 0 (length f)) - 12) (put_at room 0 f) ≡ payload_of_lem
    payload_is = ap (λ (k : ℕ). payload_of k (put_at room 0 f)) size ∙ part own d room fit enough

    read_back : ReadBack m d (filled (packed 0 0 (length f)) (put_at room 0 f))
    unfolding told_into
    read_back = record {
      whole = ap frame_answer (whole own d room fit enough) ∙ ap (packed 0 0) (sym (long own d room fit enough));
      reads = λ into e l h r i.
          let told : ReadInto payload_of_lem into e r = subst (λ (p : List ℕ). ReadInto p into e r) payload_is i in
          told.meant l (answer_at payload_of_lem e) (answer_meant payload_of_lem e)
          ∙ ap (λ (a : Answered). got (told_into a.told into) a.lent)
          (read_frame own d fit (taken_typed m bytes) e h (answer_at payload_of_lem e) (answer_meant payload_of_lem e));
      same = taken_back m bytes (sym (is_true (is_named own.body) (fits_named own d fit)));
    }

-- 15 and 20 are no 0
refused_done : (k : ℕ) → 0 < k → k < 256 → answer_refusal (refused_with k) ≡ 0 → ⊥
refused_done k h l e = let n = refusal_back k 0 0 l in omega arith

-- what `write` wrote is whole, and is read as what was written
pub write_then_read : (m d room : List ℕ) → IsBytes m → answer_refusal (write_returns m d room).answer ≡ 0 → ReadBack m d (write_returns m d room)
unfolding write_returns
write_then_read m d room bytes z = go (eqb (length m) message_size) refl z
  where
    go : (b : Bool) → eqb (length m) message_size ≡ b
        → answer_refusal (either b (λ _. put_by (written (message_at m) d room)) (λ _. filled (refused_with 15) room)).answer ≡ 0
        → ReadBack m d (either b (λ _. put_by (written (message_at m) d room)) (λ _. filled (refused_with 15) room))
    go true e z =
        let p = by_tests (message_at m) d room (λ (s : Sent). answer_refusal (put_by s).answer ≡ 0) z
        (refused_done 15 (lit< tt) (lit< tt)) (refused_done 20 (lit< tt) (lit< tt)) in
        subst (λ (s : Sent). ReadBack m d (put_by s)) (sym (stands (message_at m) d room p.fit p.enough)) (read_back m d room bytes p.fit p.enough)
    go false e z = absurd (refused_done 15 (lit< tt) (lit< tt) z)
