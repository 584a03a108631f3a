-- Stretches that are laid, once over any list of them: the room keeps its length, and where no two overlap, which one computed test tells, each value
-- that has room in its bytes is taken again. What is taken from a stretch turns on its own bytes alone. By induction on the list, and by cases on the
-- sort of stretch. Assumes nothing.
use mathlib.Core.Path.{◌≡◌, refl, sym, ap, ap₂, ◌∙◌}
use mathlib.Core.Bool.{Bool, true, false, ◌&&◌, ◌||◌, not}
use mathlib.Core.List.{List, [], ◌∷◌, map}
use Prim.Native.Nat.{ℕ, ◌+◌, ◌-◌, ◌*◌, ◌^◌, ◌≤◌, ◌<◌}
use native.Mathlib.Omega.{arith}
use lib.Dec.{T, eqb, leb, ltb, leb→le, ltb→lt, lit<}
use lib.Ieee.{fits, binary64, of_bits, to_bits}
use lib.Ieee.Bits.{to_bits-lt, of_bits-to_bits}
use lib.{ListN.length, ListN.get_or, Signed.mag}
use borrow.Author.Tests.{leb-true}
use Rattle.octets.specs.{Choice.either, Signed.bits_of, Signed.signed_of}
use Rattle.octets.specs.Bytes.{big_bytes, little_bytes, put_at, mark_byte}
use Rattle.octets.proofs.{Ranges.both_left, Ranges.both_right, Ranges.true_is, Places.same_big, Places.same_little, Widths.bits_bytes}
use Rattle.octets.proofs.{Signs.bits_below, Signs.signed_again, Reading.if_there_lem}
use Rattle.octets.proofs.Digits.{length_big, length_little, big_here, little_here}
use Rattle.octets.proofs.Writing.{length_put, put_stands, stays_before, stays_behind}
use Rattle.layout.specs.Image.{Stretch, start_of, stretch_bytes, lay, laid}
use Rattle.layout.specs.Taken.{number_at, high_at, signed_at, real_at, flag_at}

abbrev pub size_of : Stretch → ℕ
size_of (Stretch.number n p x) = n
size_of (Stretch.high n p x) = n
size_of (Stretch.signed n p z) = n
size_of (Stretch.real p x) = 8
size_of (Stretch.flag p b) = 1

-- the same stretch with what is taken from its place
abbrev pub taken_in : List ℕ → Stretch → Stretch
taken_in d (Stretch.number n p x) = Stretch.number n p (number_at d n p)
taken_in d (Stretch.high n p x) = Stretch.high n p (high_at d n p)
taken_in d (Stretch.signed n p z) = Stretch.signed n p (signed_at d n p)
taken_in d (Stretch.real p x) = Stretch.real p (real_at d p)
taken_in d (Stretch.flag p b) = Stretch.flag p (flag_at d p)

-- what stands at the place of a mark is 0 or 1
abbrev pub mark_in : List ℕ → Stretch → Bool
mark_in d (Stretch.number n p x) = true
mark_in d (Stretch.high n p x) = true
mark_in d (Stretch.signed n p z) = true
mark_in d (Stretch.real p x) = true
mark_in d (Stretch.flag p b) = ltb (number_at d 1 p) 2

abbrev pub marks_in : List ℕ → List Stretch → Bool
marks_in d [] = true
marks_in d (s ∷ ss) = mark_in d s && marks_in d ss

-- the value has room in its bytes
abbrev pub Fit : Stretch → Type 0
Fit (Stretch.number n p x) = x < 256 ^ n
Fit (Stretch.high n p x) = x < 256 ^ n
Fit (Stretch.signed n p z) = mag z < 2 ^ (8 * n - 1)
Fit (Stretch.real p x) = fits binary64 x ≡ true
Fit (Stretch.flag p b) = Unit {0}

abbrev pub AllFit : List Stretch → Type 0
AllFit [] = Unit {0}
AllFit (s ∷ ss) = Fit s × AllFit ss

length_bytes : (s : Stretch) → length (stretch_bytes s) ≡ size_of s
length_bytes (Stretch.number n p x) = length_little n x
length_bytes (Stretch.high n p x) = length_big n x
length_bytes (Stretch.signed n p z) = length_little n (bits_of (8 * n) z)
length_bytes (Stretch.real p x) = length_little 8 _
length_bytes (Stretch.flag p b) = length_little 1 (mark_byte b)

pub length_laid : (ss : List Stretch) (d : List ℕ) → length (laid ss d) ≡ length d
unfolding laid
length_laid [] d = refl
length_laid (s ∷ ss) d = length_laid ss (lay s d) ∙ length_put d (start_of s) (stretch_bytes s)

-- what is taken turns on the bytes of the stretch
module _ (d e : List ℕ) (long : length d ≡ length e) where
  module _ (p n : ℕ) (same : (k : ℕ) → k < n → get_or d (p + k) 0 ≡ get_or e (p + k) 0) where
    number_same : number_at d n p ≡ number_at e n p
    number_same = λ i. either (leb n 8 && leb (p + n) (long i)) (λ _. same_little d e p p n same i) (λ _. 0)

    high_same : high_at d n p ≡ high_at e n p
    high_same = λ i. either (leb n 8 && leb (p + n) (long i)) (λ _. same_big d e p p n same i) (λ _. 0)

  pub taken_same : (s : Stretch) → ((k : ℕ) → k < size_of s → get_or d (start_of s + k) 0 ≡ get_or e (start_of s + k) 0) → taken_in d s ≡ taken_in e s
  taken_same (Stretch.number n p x) f = ap (Stretch.number n p) (number_same p n f)
  taken_same (Stretch.high n p x) f = ap (Stretch.high n p) (high_same p n f)
  taken_same (Stretch.signed n p z) f = ap (λ (x : ℕ). Stretch.signed n p (signed_of (8 * n) x)) (number_same p n f)
  taken_same (Stretch.real p x) f = λ i. taken_in_real p (number_same p 8 f i)
    where
      taken_in_real : ℕ → ℕ → Stretch
      taken_in_real p x = Stretch.real p (of_bits binary64 x)
  taken_same (Stretch.flag p b) f = ap (λ (x : ℕ). Stretch.flag p (not (eqb x 0))) (number_same p 1 f)

  pub mark_same : (s : Stretch) → ((k : ℕ) → k < size_of s → get_or d (start_of s + k) 0 ≡ get_or e (start_of s + k) 0) → mark_in d s ≡ mark_in e s
  mark_same (Stretch.number n p x) f = refl
  mark_same (Stretch.high n p x) f = refl
  mark_same (Stretch.signed n p z) f = refl
  mark_same (Stretch.real p x) f = refl
  mark_same (Stretch.flag p b) f = ap (λ (x : ℕ). ltb x 2) (number_same p 1 f)

-- a stretch of 1 to 8 bytes that has room is taken again
module _ (d : List ℕ) where
  module _ (n p x : ℕ) (few : n ≤ 8) (small : x < 256 ^ n) (room : p + n ≤ length d) where
    number_again : number_at (put_at d p (little_bytes n x)) n p ≡ x
    number_again =
        let l : length (little_bytes n x) ≡ n = length_little n x in
        if_there_lem (put_at d p (little_bytes n x)) p n _ few (omega (arith, length_put d p (little_bytes n x)))
        ∙ little_here n x small (put_at d p (little_bytes n x)) p _ (put_stands d p (little_bytes n x) (omega arith))

    high_again : high_at (put_at d p (big_bytes n x)) n p ≡ x
    high_again =
        let l : length (big_bytes n x) ≡ n = length_big n x in
        if_there_lem (put_at d p (big_bytes n x)) p n _ few (omega (arith, length_put d p (big_bytes n x)))
        ∙ big_here n x small (put_at d p (big_bytes n x)) p _ (put_stands d p (big_bytes n x) (omega arith))

  mark_low : (b : Bool) → mark_byte b < 256 ^ 1
  mark_low true = lit< tt
  mark_low false = lit< tt

  taken_again : (s : Stretch) → 0 < size_of s → size_of s ≤ 8 → start_of s + size_of s ≤ length d → Fit s → taken_in (lay s d) s ≡ s
  taken_again (Stretch.number n p x) some few room f = ap (Stretch.number n p) (number_again n p x few f room)
  taken_again (Stretch.high n p x) some few room f = ap (Stretch.high n p) (high_again n p x few f room)
  taken_again (Stretch.signed n p z) some few room f =
      ap (Stretch.signed n p)
      (ap (signed_of (8 * n)) (number_again n p (bits_of (8 * n) z) few (rw (← bits_bytes n) (bits_below (8 * n) (omega arith) z f)) room)
      ∙ signed_again (8 * n) (omega arith) z f)
  taken_again (Stretch.real p x) some few room f =
      let t = true_is (fits binary64 x) (sym f) in
      ap (Stretch.real p)
      (ap (of_bits binary64) (number_again 8 p (to_bits binary64 x) few (to_bits-lt binary64 x t) room) ∙ of_bits-to_bits binary64 x t)
  taken_again (Stretch.flag p b) some few room f =
      ap (Stretch.flag p) (ap (λ (x : ℕ). not (eqb x 0)) (number_again 1 p (mark_byte b) few (mark_low b) room) ∙ mark_back b)
    where
      mark_back : (b : Bool) → not (eqb (mark_byte b) 0) ≡ b
      mark_back true = refl
      mark_back false = refl

  mark_again : (s : Stretch) → start_of s + size_of s ≤ length d → mark_in (lay s d) s ≡ true
  mark_again (Stretch.number n p x) room = refl
  mark_again (Stretch.high n p x) room = refl
  mark_again (Stretch.signed n p z) room = refl
  mark_again (Stretch.real p x) room = refl
  mark_again (Stretch.flag p b) room = ap (λ (x : ℕ). ltb x 2) (number_again 1 p (mark_byte b) (omega arith) (mark_low b) room) ∙ mark_two b
    where
      mark_two : (b : Bool) → ltb (mark_byte b) 2 ≡ true
      mark_two true = refl
      mark_two false = refl

-- n bytes from p on, and m bytes from at on, have none in common
abbrev away : ℕ → ℕ → ℕ → ℕ → Bool
away p n at m = leb (p + n) at || leb (at + m) p

abbrev away_from : Stretch → List Stretch → Bool
away_from s [] = true
away_from s (t ∷ ss) = away (start_of s) (size_of s) (start_of t) (size_of t) && away_from s ss

abbrev sized : Stretch → ℕ → Bool
sized s size = ltb 0 (size_of s) && (leb (size_of s) 8 && leb (start_of s + size_of s) size)

-- each has 1 to 8 bytes within a room of the size, and no two overlap
abbrev pub apart : List Stretch → ℕ → Bool
apart [] size = true
apart (s ∷ ss) size = sized s size && (away_from s ss && apart ss size)

byte_kept : (d : List ℕ) (t : Stretch) (p n : ℕ) → T (away p n (start_of t) (size_of t)) → (k : ℕ) → k < n → get_or (lay t d) (p + k) 0 ≡ get_or d (p + k) 0
byte_kept d t p n a k h = go (leb (p + n) (start_of t)) refl (leb (start_of t + size_of t) p) refl a
  where
    go : (a : Bool) → leb (p + n) (start_of t) ≡ a → (b : Bool) → leb (start_of t + size_of t) p ≡ b → T (a || b) → get_or (lay t d) (p + k) 0 ≡ get_or d (p + k) 0
    go true e b f u = stays_before d (start_of t) (stretch_bytes t) (p + k) (omega (arith, leb-true (p + n) (start_of t) e))
    go false e true f u = stays_behind d (start_of t) (stretch_bytes t) (p + k) (omega (arith, leb-true (start_of t + size_of t) p f, length_bytes t))
    go false e false f u = absurd u

bytes_kept : (s : Stretch) (ss : List Stretch) (d : List ℕ) → T (away_from s ss) → (k : ℕ) → k < size_of s → get_or (laid ss d) (start_of s + k) 0 ≡ get_or d (start_of s + k) 0
unfolding laid
bytes_kept s [] d a k h = refl
bytes_kept s (t ∷ ss) d a k h =
    let here = away (start_of s) (size_of s) (start_of t) (size_of t) in
    bytes_kept s ss (lay t d) (both_right here (away_from s ss) a) k h
    ∙ byte_kept d t (start_of s) (size_of s) (both_left here (away_from s ss) a) k h

module _ (size : ℕ) where
  pub all_taken : (ss : List Stretch) (d : List ℕ) → length d ≡ size → T (apart ss size) → AllFit ss
      → (map (taken_in (laid ss d)) ss ≡ ss) × (marks_in (laid ss d) ss ≡ true)
  unfolding laid
  all_taken [] d l a f = (refl, refl)
  all_taken (s ∷ ss) d l a f =
      let z = both_left (sized s size) (away_from s ss && apart ss size) a in
      let r = both_right (sized s size) (away_from s ss && apart ss size) a in
      let few = both_right (ltb 0 (size_of s)) (leb (size_of s) 8 && leb (start_of s + size_of s) size) z in
      let room : start_of s + size_of s ≤ length d
      = omega (arith, leb→le (start_of s + size_of s) size (both_right (leb (size_of s) 8) (leb (start_of s + size_of s) size) few)) in
      let kept = bytes_kept s ss (lay s d) (both_left (away_from s ss) (apart ss size) r) in
      let long = length_laid ss (lay s d) in
      let next = all_taken ss (lay s d) (length_put d (start_of s) (stretch_bytes s) ∙ l) (both_right (away_from s ss) (apart ss size) r) f.1 in (
        ap₂ (λ (t : Stretch) (ts : List Stretch). t ∷ ts)
            (taken_same (laid ss (lay s d)) (lay s d) long s kept
            ∙ taken_again d s (ltb→lt 0 (size_of s) (both_left (ltb 0 (size_of s)) (leb (size_of s) 8 && leb (start_of s + size_of s) size) z))
            (leb→le (size_of s) 8 (both_left (leb (size_of s) 8) (leb (start_of s + size_of s) size) few)) room f.0)
            next.0,
        ap₂ ◌&&◌ (mark_same (laid ss (lay s d)) (lay s d) long s kept ∙ mark_again d s room) next.1,
      )
