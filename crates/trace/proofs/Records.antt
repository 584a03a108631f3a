-- One record: what is written of it is read again, whatever follows, and bytes that are read as one are those that write it. Assumes nothing.
use mathlib.Core.Path.{◌≡◌, refl, sym, ap, ap₂, ◌∙◌}
use mathlib.Core.Bool.{Bool, true, false}
use mathlib.Core.List.{List, ◌++◌, append_assoc}
use Prim.Native.Nat.{ℕ, ◌+◌, ◌^◌}
use native.Mathlib.{Omega.arith}
use lib.{Dec.leb, Dec.ltb, Dec.eqb}
use lib.ListN.{length, drop, length-append, take-append-drop}
use lib.Seq.{drop-drop}
use borrow.Author.Tests.{le-leb, leb-true, ltb-true, eqb-true}
use Rattle.octets.specs.{Choice.either, Bytes.IsBytes, Size.is_size}
use Rattle.octets.proofs.{Truth.both, Sizes.sized_some, Sizes.sized_most, Places.after, Places.part}
use Rattle.std.specs.Prelude.{Ok, Err}
use Rattle.refusal.specs.declared.Refusal.{Refusal, TheVariants.FrameIncomplete, TheVariants.FrameIdentifier, TheVariants.Size}
use Rattle.frame.specs.Frame.{Framed, identifier, agrees, size_of, framed_of, frame_refusal, used_of}
use Rattle.frame.proofs.Format.{refused_number}
use Rattle.std.specs.Prelude.{Ok}
use Rattle.groups.specs.Groups.{last_group, number_bytes, number_at}
use Rattle.groups.proofs.Inverse.{written_read, read_written}
use Rattle.trace.specs.declared.Entry.{Entry}
use Rattle.trace.specs.Record.{is_one_frame, is_frame_length, is_time, is_station, entry_of, frame_of}
use Rattle.trace.specs.{Trace.end_of, Write.record_bytes}
use Rattle.trace.proofs.{Apart.apart, Apart.together, Entries.read_frame_long}

-- a whole frame has 13 to 4,108 bytes
whole_tests : (a b c d : Bool) (m n : ℕ) → either a (λ _. either b (λ _. Err FrameIncomplete) (λ _. either c (λ _. either d (λ _. Err FrameIncomplete) (λ _. Ok m)) (λ _. Err Size))) (λ _. Err FrameIdentifier) ≡ Ok n → (c ≡ true) × (m ≡ n)
whole_tests false b c d m n e = cc
whole_tests true true c d m n e = cc
whole_tests true false false d m n e = cc
whole_tests true false true true m n e = cc
whole_tests true false true false m n e = (refl, cc)

whole_sized : (f : List ℕ) (n : ℕ) → framed_of f ≡ Ok n → is_size n ≡ true
unfolding framed_of
whole_sized f n e =
    let t = whole_tests (agrees identifier f) (ltb (length f) 12) (is_size (size_of f)) (ltb (length f) (12 + size_of f)) (size_of f) n e in
    rw t.1 at t.0

pub one_sized : (f : List ℕ) → is_one_frame f ≡ true → is_frame_length (length f) ≡ true
unfolding is_one_frame
one_sized f t = go (framed_of f) refl tests.0 tests.1
  where
    tests : (eqb (frame_refusal (framed_of f)) 0 ≡ true) × (eqb (used_of (framed_of f)) (length f) ≡ true)
    tests = both (eqb (frame_refusal (framed_of f)) 0) (eqb (used_of (framed_of f)) (length f)) t

    go : (r : Framed) → framed_of f ≡ r → eqb (frame_refusal r) 0 ≡ true → eqb (used_of r) (length f) ≡ true → is_frame_length (length f) ≡ true
    go (Ok n) e a b =
        let w = whole_sized f n e in
        let l : 12 + n ≡ length f = eqb-true (12 + n) (length f) b in
        simp (le-leb 13 (length f) (omega (arith, sized_some n w)), le-leb (length f) 4108 (omega (arith, sized_most n w)))
    go (Err k) e a b = absurd (omega (arith, refused_number f k e, eqb-true (frame_refusal (Err k)) 0 a))

-- the numbers in front of the frame
abbrev pub head_of : ℕ → ℕ → List ℕ → List ℕ
head_of gap station frame = number_bytes gap ++ (number_bytes station ++ number_bytes (length frame))

-- a record as it is read
abbrev pub entry_for : ℕ → ℕ → List ℕ → Entry
entry_for gap station frame = record { gap = gap; station = station; from = length (head_of gap station frame); size = length frame }

module _ (sum gap station : ℕ) (frame : List ℕ) (time : is_time (sum + gap) ≡ true) (known : is_station station ≡ true) (whole : is_one_frame frame ≡ true) (t : List ℕ) where
  abbrev a : List ℕ
  a = number_bytes gap

  abbrev b : List ℕ
  b = number_bytes station

  abbrev c : List ℕ
  c = number_bytes (length frame)

  abbrev s : List ℕ
  s = record_bytes gap station frame ++ t

  at_first : drop 0 s ≡ a ++ (b ++ (c ++ (frame ++ t)))
  unfolding record_bytes
  at_first = simp append_assoc

  at_second : drop (0 + length a) s ≡ b ++ (c ++ (frame ++ t))
  at_second = after s 0 a (b ++ (c ++ (frame ++ t))) at_first

  at_third : drop (0 + length a + length b) s ≡ c ++ (frame ++ t)
  at_third = after s (0 + length a) b (c ++ (frame ++ t)) at_second

  long : length (head_of gap station frame) ≡ 0 + length a + length b + length c
  long = omega (arith, length-append a (b ++ c), length-append b c)

  at_frame : drop (length (head_of gap station frame)) s ≡ frame ++ t
  at_frame = rw long (after s (0 + length a + length b) c (frame ++ t) at_third)

  pub record_frame : frame_of (record_bytes gap station frame ++ t) (entry_for gap station frame) ≡ frame
  record_frame = part s (length (head_of gap station frame)) frame t at_frame

  pub record_rest : drop (length (head_of gap station frame) + length frame) (record_bytes gap station frame ++ t) ≡ t
  record_rest = after s (length (head_of gap station frame)) frame t at_frame

  pub record_reads : entry_of sum (record_bytes gap station frame ++ t) ≡ Ok (record { gap = gap; station = station; from = length (number_bytes gap ++ (number_bytes station ++ number_bytes (length frame))); size = length frame })
  record_reads =
      let sized = one_sized frame whole in
      let most = leb-true (length frame) 4108 (both (leb 13 (length frame)) (leb (length frame) 4108) sized).1 in
      together sum s (entry_for gap station frame)
      (record {
        second = 0 + length a;
        third = 0 + length a + length b;
        gap = written_read gap (omega (arith, ltb-true (sum + gap) (2 ^ 64) time)) s 0 (b ++ (c ++ (frame ++ t))) at_first;
        time = time;
        station = written_read station (omega (arith, leb-true station 63 known)) s (0 + length a) (c ++ (frame ++ t)) at_second;
        known = known;
        size = rw long (written_read (length frame) (omega arith) s (0 + length a + length b) (frame ++ t) at_third);
        sized = sized;
        there =
            omega (arith, long, ap length at_first, length-append a (b ++ (c ++ (frame ++ t))), length-append b (c ++ (frame ++ t)), length-append c (frame ++ t), length-append frame t);
        frame = rw record_frame whole;
      })

-- bytes that are read as a record are those that write it
numbers_written : (s : List ℕ) → IsBytes s → (at v next : ℕ) → number_at s at ≡ Ok (last_group v next) → drop at s ≡ number_bytes v ++ drop next s
numbers_written s c at v next e = (read_written s at (last_group v next) e c).bytes

module _ (sum : ℕ) (s : List ℕ) (bytes : IsBytes s) (e : Entry) (z : entry_of sum s ≡ Ok e) where
  frame_stands : drop e.from s ≡ frame_of s e ++ drop (end_of e) s
  frame_stands = sym (take-append-drop e.size (drop e.from s)) ∙ ap (λ (l : List ℕ). frame_of s e ++ l) (drop-drop e.size e.from s)

  pub read_record : s ≡ record_bytes e.gap e.station (frame_of s e) ++ drop (end_of e) s
  unfolding record_bytes
  read_record =
      let p = apart sum s e z in
      simp append_assoc
      (numbers_written s bytes 0 e.gap p.second p.gap
      ∙ ap (λ (l : List ℕ). number_bytes e.gap ++ l)
      (numbers_written s bytes p.second e.station p.third p.station
      ∙ ap (λ (l : List ℕ). number_bytes e.station ++ l)
      (numbers_written s bytes p.third e.size e.from p.size
      ∙ ap₂ (λ (n : ℕ) (l : List ℕ). number_bytes n ++ l) (sym (read_frame_long sum s e z)) frame_stands)))
