-- A payload in its frame: it stands behind the frame's head, a room as long as the frame holds both, and with the head in front it is the frame at the start of the
-- room. Each law in the shape of a need of the code. Assumes nothing.
use mathlib.Core.Path.{◌≡◌, refl, sym, ap, ap₂, ◌∙◌}
use mathlib.Core.Bool.{true}
use mathlib.Core.List.{List, [], ◌∷◌, ◌++◌, append_assoc}
use Prim.Native.Nat.{ℕ, ◌+◌, ◌-◌, ◌≤◌, ◌<◌}
use native.Mathlib.Omega.{arith}
use lib.ListN.{length, take, drop, replicate, length-append, length-replicate}
use lib.Seq.{length-take-le}
use borrow.Author.Tests.{eq-eqb, ne_eqb, le-leb, lt-leb}
use Rattle.octets.specs.{Bytes.big_bytes, Bytes.little_bytes, Bytes.put_at, Code.Put.put_number}
use Rattle.octets.proofs.{Digits.length_big, Digits.length_little, Ranges.is_true, Stores.put_number_lem}
use Rattle.octets.proofs.Writing.{put_in, put_then, put_stands, length_put, put_upto}
use Rattle.frame.specs.Frame.{identifier}
use Rattle.forms.specs.Code.Put.{Put, put, put_parts, joined}
use Rattle.forms.proofs.Putting.{fits_parts, part_in}
use Rattle.saying.specs.Written.{frame_of}
use Rattle.record.specs.{Fits.fault_in, Fits.fits, Says.is_named, Written.payload_for, Written.frame_for, Code.Most.frame_most}
use Rattle.record.specs.declared.Message.{Message}
use Rattle.record.proofs.Payloads.{frame_most_lem, payload_most}
use Rattle.writer.specs.Code.Parts.{has_data, body_parts, with_head}
use Rattle.writer.specs.Write.{Sent, sent, framed, written}
use Rattle.std.specs.Prelude.{Result, Ok, Err}
use Rattle.refusal.specs.declared.Refusal.{Refusal, TheVariants.Invalid, TheVariants.RoomTooShort}
use Rattle.writer.proofs.Payloads.{payload_bytes, fits_named, fits_data}

-- what is put in front of bytes that stand there
ahead : (old h d : List ℕ) → length h + length d ≤ length old → put_at (put_at old (length h) d) 0 h ≡ put_at old 0 (h ++ d)
ahead old h d r =
    let x = put_at old (length h) d in
    let z : 0 + length h ≡ length h = omega arith in
    let y : 0 + length (h ++ d) ≡ length h + length d = omega (arith, length-append h d) in
    put_in x 0 h (omega (arith, length_put old (length h) d))
    ∙ ap (λ (k : ℕ). h ++ drop k x) z
    ∙ ap (λ (s : List ℕ). h ++ s) (put_stands old (length h) d r)
    ∙ sym (append_assoc h d (drop (length h + length d) old))
    ∙ ap (λ (k : ℕ). (h ++ d) ++ drop k old) (sym y)
    ∙ sym (put_in old 0 (h ++ d) (omega (arith, y)))

identifies : big_bytes 8 0x4D494F5459423031 ≡ identifier
unfolding big_bytes identifier
identifies = refl

pub head_put : (room a b : List ℕ) (n : ℕ) → a ≡ put_number room 0 8 (big_bytes 8 0x4D494F5459423031) → b ≡ put_number a 8 4 (little_bytes 4 (n - 12)) → b ≡ with_head room n
unfolding with_head
head_put room a b n p q = q ∙ ap (λ (x : List ℕ). put_number x 8 4 (little_bytes 4 (n - 12))) p

head_before : (old room after d : List ℕ) (n : ℕ) → 12 + length d ≤ length old → room ≡ put_at old 12 d → n ≡ 12 + length d
    → after ≡ with_head room n → after ≡ put_at old 0 (frame_of d)
unfolding frame_of with_head
head_before old room after d n h p q s =
    let i = big_bytes 8 0x4D494F5459423031 in
    let z = little_bytes 4 (n - 12) in
    let li : length i ≡ 8 = length_big 8 0x4D494F5459423031 in
    let lz : length z ≡ 4 = length_little 4 (n - 12) in
    let lr : length room ≡ length old = ap length p ∙ length_put old 12 d in
    let l2 : length (i ++ z) ≡ 12 = length-append i z ∙ omega arith in
    let k1 : 8 ≡ 0 + length i = omega arith in
    let size : n - 12 ≡ length d = omega arith in
    s ∙ put_number_lem (put_number room 0 8 i) 8 4 z (omega arith)
    ∙ ap (λ (x : List ℕ). put_at x 8 z) (put_number_lem room 0 8 i (omega arith))
    ∙ ap (λ (k : ℕ). put_at (put_at room 0 i) k z) k1
    ∙ put_then room 0 i z (omega arith)
    ∙ ap (λ (x : List ℕ). put_at x 0 (i ++ z)) p
    ∙ ap (λ (k : ℕ). put_at (put_at old k d) 0 (i ++ z)) (sym l2)
    ∙ ahead old (i ++ z) d (omega arith)
    ∙ ap (put_at old 0) (append_assoc i z d ∙ ap₂ (λ (x : List ℕ) (y : ℕ). x ++ (little_bytes 4 y ++ d)) identifies size)

frame_length : (d : List ℕ) → length (frame_of d) ≡ 12 + length d
unfolding frame_of identifier
frame_length d = omega (arith, length-append (little_bytes 4 (length d)) d, length_little 4 (length d))

-- a frame that is made, with place for it and without
module _ (made room : List ℕ) where
  framed_whole : (after : List ℕ) (n : ℕ) → n ≡ length made → length made ≤ length room → after ≡ put_at room 0 made → sent (Ok n) after ≡ framed made room
  unfolding framed
  framed_whole after n e h p = rw (le-leb (length made) (length room) h, e, p)

  pub delivered : (after : List ℕ) (r : ℕ) → length made ≤ length room → put after r ≡ put_parts (made ∷ []) (put room 0) → sent (Ok (length made)) after ≡ framed made room
  unfolding put_parts
  delivered after r h e = framed_whole after (length made) refl h (ap (λ (o : Put). o.room) (e ∙ part_in room 0 made (omega arith)))

  pub too_short : length room < length made → sent (Err RoomTooShort) room ≡ framed made room
  unfolding framed
  too_short h = rw (lt-leb (length made) (length room) h)

pub ruleset deliveries = (delivered, too_short)

-- a record's frame has place in so many bytes, and a reply's in fewer
module _ (m : Message) (d room : List ℕ) (f : true ≡ fits m d) where
  frame_is : length (frame_for m d) ≡ 12 + length (payload_for m d)
  frame_is = frame_length (payload_for m d)

  pub has_place : 1909 ≤ length room → length (frame_for m d) ≤ length room
  has_place l = omega (arith, frame_is, payload_most m d (sym f), frame_most_lem m.body)

  pub has_place_brief : frame_most m.body ≤ 145 → 145 ≤ length room → length (frame_for m d) ≤ length room
  has_place_brief b l = omega (arith, frame_is, payload_most m d (sym f))

pub many : (n : ℕ) → n ≤ length (replicate {A = ℕ} n 0)
many n = rw length-replicate (omega arith)

module _ (m : Message) (d : List ℕ) (f : true ≡ fits m d) where
  pub named : true ≡ is_named m.body
  named = is_true (is_named m.body) (fits_named m d (sym f))

  pub data_there : true ≡ has_data m.body d
  data_there = is_true (has_data m.body d) (fits_data m d (sym f))

  module _ (old room : List ℕ) (n : ℕ) (l : length (frame_for m d) ≤ length old) (e : put room n ≡ put_parts (body_parts m.op_id m.body d) (put old 12)) where
    place : 12 + length (payload_for m d) ≤ length old
    place = omega (arith, l, frame_length (payload_for m d))

    all_put : put room n ≡ put (put_at old 12 (payload_for m d)) (12 + length (payload_for m d))
    all_put =
        let b = payload_bytes m d (fits_named m d (sym f)) in
        let s : 12 + length (joined (body_parts m.op_id m.body d)) ≤ length old = rw b place in
        e ∙ fits_parts (body_parts m.op_id m.body d) old 12 s ∙ ap (λ (p : List ℕ). put (put_at old 12 p) (12 + length p)) b

    size : n ≡ 12 + length (payload_for m d)
    size = ap (λ (o : Put). o.next) all_put

    long : n ≡ length (frame_for m d)
    long = size ∙ sym (frame_length (payload_for m d))

    pub behind_head : 12 ≤ n
    behind_head = omega (arith, size)

    frame_put : (after : List ℕ) → after ≡ with_head room n → after ≡ put_at old 0 (frame_for m d)
    frame_put after g = head_before old room after (payload_for m d) n place (ap (λ (o : Put). o.room) all_put) size g

    pub put_whole : (after : List ℕ) → after ≡ with_head room n → sent (Ok n) after ≡ framed (frame_for m d) old
    put_whole after g = framed_whole (frame_for m d) old after n long l (frame_put after g)

    -- made elsewhere, and then put into its place
    module _ (made : List ℕ) (g : made ≡ with_head room n) where
      pub in_made : n ≤ length made
      in_made = omega (arith, size, place, ap length (frame_put made g) ∙ length_put old 0 (frame_for m d))

      pub copied : n ≡ length (take n made)
      copied = sym (length-take-le n made in_made)

      made_there : take n made ≡ frame_for m d
      made_there =
          let k : n ≡ 0 + length (frame_for m d) = omega (arith, long) in
          ap₂ (λ (i : ℕ) (s : List ℕ). take i s) k (frame_put made g)
          ∙ put_upto old 0 (frame_for m d) (omega (arith, l))

      pub put_made : (room after : List ℕ) (r : Result ℕ Refusal) → sent r after ≡ framed (take n made) room → sent r after ≡ framed (frame_for m d) room
      put_made room after r e = rw made_there at e

-- the test before it
module _ (m : Message) (d : List ℕ) (r : ℕ) (e : r ≡ fault_in m d) where
  pub fitting : r ≡ 0 → true ≡ fits m d
  fitting z = sym (eq-eqb (fault_in m d) 0 (sym e ∙ z))

  pub written_15 : (room : List ℕ) → (r ≡ 0 → ⊥) → sent (Err Invalid) room ≡ written m d room
  unfolding written
  written_15 room n = rw (ne_eqb (fault_in m d) 0 (λ z. n (e ∙ z)))

  pub written_put : (a : Sent) (room : List ℕ) → r ≡ 0 → a ≡ framed (frame_for m d) room → a ≡ written m d room
  unfolding written
  written_put a room z g = rw (← fitting z) g

pub ruleset writes = (fitting, written_15, written_put)

pub ruleset frames = (has_place, named, data_there, behind_head, put_whole)

pub ruleset copies = (many, has_place, has_place_brief, named, data_there, behind_head, in_made, copied, put_made)
