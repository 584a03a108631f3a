-- What the writer leaves in the room, the reader takes: the same gap, station and frame, and as many bytes as were answered. Assumes nothing.
use mathlib.Core.{Path.◌≡◌, Path.refl, Path.sym, Path.ap, Path.subst, Path.◌∙◌, List.List, List.[], List.◌∷◌, List.◌++◌}
use mathlib.Core.Bool.{Bool, true, false}
use Prim.Native.Nat.{ℕ, ◌+◌, ◌/◌, ◌%◌, ◌≤◌, ◌<◌}
use native.Mathlib.Omega.{arith}
use lib.{Dec.leb, Dec.ltb, ListN.length, ListN.drop, ListN.length-append}
use borrow.Author.Tests.{le-leb, leb-true, lt-ltb, ltb-false}
use Rattle.octets.specs.{Choice.either, Bytes.put_at}
use Rattle.octets.proofs.Truth.{both}
use Rattle.groups.specs.Groups.{groups_of, number_bytes}
use Rattle.groups.proofs.Inverse.{most_ten}
use Rattle.std.specs.Prelude.{Ok}
use Rattle.refusal.specs.declared.Refusal.{TheVariants.RoomTooShort, TheVariants.StationNumber, TheVariants.TimeSum, TheVariants.NotOneFrame}
use Rattle.groups.proofs.Goes.{ok_err}
use Rattle.trace.specs.{Record.is_one_frame, Record.is_time, Record.is_station, Record.entry_of, Record.frame_of}
use Rattle.trace.specs.Write.{Recorded, recorded, record_refused, record_bytes, placed_in, record_in}
use Rattle.trace.proofs.Stepping.{ok_same}
use Rattle.trace.proofs.Records.{entry_for, one_sized, record_reads, record_frame}

-- a record that is taken passed all tests, and stands at the start of the room
record Taken (sum gap station : ℕ) (frame : List ℕ) (n : ℕ) (room : List ℕ) : Type 0 where
  time : is_time (sum + gap) ≡ true
  known : is_station station ≡ true
  whole : is_one_frame frame ≡ true
  long : n ≡ length (record_bytes gap station frame)
  rest : List ℕ
  stands : room ≡ record_bytes gap station frame ++ rest

at_start : (d vs : List ℕ) → length vs ≤ length d → put_at d 0 vs ≡ vs ++ drop (0 + length vs) d
unfolding put_at
at_start d vs h = simp (le-leb (0 + length vs) (length d) (omega arith))

module _ (sum gap station : ℕ) (frame room : List ℕ) where
  -- what is said of an answer that is a length
  abbrev Takes : Recorded → Type 0
  Takes x = (n : ℕ) → x.answer ≡ Ok n → Taken sum gap station frame n x.room

  placed : is_time (sum + gap) ≡ true → is_station station ≡ true → is_one_frame frame ≡ true → Takes (placed_in (record_bytes gap station frame) room)
  unfolding placed_in
  placed a b c = go (leb (length vs) (length room)) refl
    where
      vs : List ℕ
      vs = record_bytes gap station frame

      go : (t : Bool) → leb (length vs) (length room) ≡ t → Takes (either t (λ _. recorded (Ok (length vs)) (put_at room 0 vs)) (λ _. record_refused RoomTooShort room))
      go true e n z = record {
        time = a;
        known = b;
        whole = c;
        long = sym (ok_same z);
        rest = drop (0 + length vs) room;
        stands = at_start room vs (leb-true (length vs) (length room) e);
      }
      go false e n z = absurd (ok_err (sym z))

  taken : Takes (record_in sum gap station frame room)
  unfolding record_in
  taken = go (is_time (sum + gap)) (is_station station) (is_one_frame frame) refl refl refl
    where
      go : (a b c : Bool) → is_time (sum + gap) ≡ a → is_station station ≡ b → is_one_frame frame ≡ c
          → Takes (either a (λ _. either b (λ _. either c (λ _. placed_in (record_bytes gap station frame) room) (λ _. record_refused NotOneFrame room)) (λ _. record_refused StationNumber room)) (λ _. record_refused TimeSum room))
      go true true true e f g n z = placed e f g n z
      go true true false e f g n z = absurd (ok_err (sym z))
      go true false c e f g n z = absurd (ok_err (sym z))
      go false b c e f g n z = absurd (ok_err (sym z))

  module _ (n : ℕ) (d : List ℕ) (q : recorded (Ok n) d ≡ record_in sum gap station frame room) where
    was : Taken sum gap station frame n d
    was = subst Takes (sym q) taken n refl

    pub write_reads : entry_of sum d ≡ Ok (entry_for gap station frame)
    write_reads = let t = was in ap (entry_of sum) t.stands ∙ record_reads sum gap station frame t.time t.known t.whole t.rest

    pub write_length : n ≡ length (record_bytes gap station frame)
    write_length = was.long

    pub write_frame : frame_of d (entry_for gap station frame) ≡ frame
    write_frame =
        let t = was in
        ap (λ (s : List ℕ). frame_of s (entry_for gap station frame)) t.stands ∙ record_frame sum gap station frame t.time t.known t.whole t.rest

-- a small number has few bytes, so the longest record has 4,121
one_byte : (n : ℕ) → n < 128 → length (number_bytes n) ≡ 1
unfolding groups_of
one_byte n h = simp (lt-ltb n 128 h)

two_bytes : (n : ℕ) → n < 16384 → length (number_bytes n) ≤ 2
unfolding groups_of
two_bytes n h = go (ltb n 128) (ltb (n / 128) 128) refl refl
  where
    go : (a b : Bool) → ltb n 128 ≡ a → ltb (n / 128) 128 ≡ b
        → length (either a (λ _. n ∷ []) (λ _. (128 + n % 128) ∷ either b (λ _. n / 128 ∷ []) (λ _. (128 + n / 128 % 128) ∷ groups_of 8 (n / 128 / 128)))) ≤ 2
    go true b e f = omega arith
    go false true e f = omega arith
    go false false e f = absurd (let l : 128 ≤ n / 128 = ltb-false (n / 128) 128 f in omega arith)

pub record_most : (gap station : ℕ) (frame : List ℕ) → is_station station ≡ true → is_one_frame frame ≡ true → length (record_bytes gap station frame) ≤ 4121
unfolding record_bytes
record_most gap station frame k w =
    let t = both (leb 13 (length frame)) (leb (length frame) 4108) (one_sized frame w) in
    let l : length frame ≤ 4108 = leb-true (length frame) 4108 t.1 in
    let s : station ≤ 63 = leb-true station 63 k in
    simp length-append (omega (arith, most_ten gap, one_byte station (omega arith), two_bytes (length frame) (omega arith)))
