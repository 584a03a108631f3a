-- The bytes of a session and the session in them: for every image that is a session's, the image of the session in it is that image. Word by word
-- and byte by byte, each part standing behind the one before it. Assumes nothing.
use mathlib.Core.Path.{◌≡◌, refl, sym, ap, ap₂, ◌∙◌}
use mathlib.Core.Bool.{Bool, true, false, ◌&&◌, not}
use mathlib.Core.List.{List, [], ◌∷◌, ◌++◌}
use Prim.Native.Nat.{ℕ, zero, suc, ◌+◌, ◌-◌, ◌*◌, ◌^◌, ◌≤◌, ◌<◌}
use native.Mathlib.Numerals.{add-one}
use native.Mathlib.Omega.{arith}
use lib.{Dec.eqb, Dec.ltb, IntN.pos, IntN.negsuc}
use lib.ListN.{length, get_or, take, drop, replicate, take-append-drop, length-drop}
use lib.Seq.{take-add, drop-drop, drop-cons, length-take-le}
use borrow.Author.Tests.{eqb-true, ltb-true, ltb-false, ne_eqb}
use Rattle.octets.specs.{Choice.either, Bytes.IsBytes, Bytes.mark_byte, Signed.bits_of, Signed.signed_of}
use Rattle.octets.proofs.{Truth.both, Widths.little_below, Digits.little_again}
use Rattle.session.specs.Session.{Session}
use Rattle.session.specs.Image.{state_byte, state_of, ids_of, kinds_of, words_of, tail_of, word_bytes, session_image, word_at, entries_at, session_at, are_zeros, is_session}

-- what the test says of the bytes
pub record Tested (d : List ℕ) : Type 0 where
  pub long : length d ≡ 368
  pub state : get_or d 344 0 < 3
  pub stored : get_or d 345 0 < 2
  pub spare : are_zeros (drop 346 d) ≡ true

pub tested : (d : List ℕ) → is_session d ≡ true → Tested d
unfolding is_session
tested d e =
    let a = both (eqb (length d) 368) (ltb (get_or d 344 0) 3 && (ltb (get_or d 345 0) 2 && are_zeros (drop 346 d))) e in
    let b = both (ltb (get_or d 344 0) 3) (ltb (get_or d 345 0) 2 && are_zeros (drop 346 d)) a.1 in
    let c = both (ltb (get_or d 345 0) 2) (are_zeros (drop 346 d)) b.1 in
    record { long = eqb-true (length d) 368 a.0; state = ltb-true (get_or d 344 0) 3 b.0; stored = ltb-true (get_or d 345 0) 2 c.0; spare = c.1 }

-- a number's bits, a state, a mark and zeros, there and back
bits_again : (x : ℕ) → x < 2 ^ 64 → bits_of 64 (signed_of 64 x) ≡ x
bits_again x h = go (ltb x (2 ^ 63)) refl
  where
    go : (b : Bool) → ltb x (2 ^ 63) ≡ b → bits_of 64 (either b (λ _. pos x) (λ _. negsuc (2 ^ 64 - suc x))) ≡ x
    go true e = refl
    go false e = omega (arith, ltb-false x (2 ^ 63) e)

state_again : (x : ℕ) → x < 3 → state_byte (state_of x) ≡ x
state_again zero h = refl
state_again (suc zero) h = refl
state_again (suc (suc x)) h = omega arith

mark_again : (x : ℕ) → x < 2 → mark_byte (not (eqb x 0)) ≡ x
mark_again zero h = refl
mark_again (suc x) h = simp (ne_eqb (suc x) 0 (λ e. omega arith)) (omega arith)

pub zeros_again : (l : List ℕ) → are_zeros l ≡ true → l ≡ replicate (length l) 0
unfolding are_zeros
zeros_again [] e = refl
zeros_again (b ∷ l) e =
    let p = both (eqb b 0) (are_zeros l) e in
    ap₂ (λ (x : ℕ) (xs : List ℕ). x ∷ xs) (eqb-true b 0 p.0) (zeros_again l p.1)

-- n words from a place on
abbrev words_from : List ℕ → ℕ → ℕ → List ℕ
words_from d at zero = []
words_from d at (suc n) = word_at d at ∷ words_from d (at + 8) n

words_split : (d : List ℕ) (at m n : ℕ) → words_from d at (m + n) ≡ words_from d at m ++ words_from d (at + 8 * m) n
words_split d at zero n =
    let e : at ≡ at + 8 * 0 = omega arith in
    let z : 0 + n ≡ n = omega arith in
    ap₂ (λ (k j : ℕ). words_from d k j) e z
words_split d at (suc m) n =
    let e : at + 8 + 8 * m ≡ at + 8 * suc m = omega arith in
    let z : suc m + n ≡ suc (m + n) = omega arith in
    ap (words_from d at) z ∙ ap (λ (xs : List ℕ). word_at d at ∷ xs) (words_split d (at + 8) m n ∙ ap (λ (k : ℕ). words_from d (at + 8) m ++ words_from d k n) e)

pub entries_long : (d : List ℕ) (ids kinds n : ℕ) → length (entries_at d ids kinds n) ≡ n
unfolding entries_at
entries_long d ids kinds zero = refl
entries_long d ids kinds (suc n) = ap suc (entries_long d (ids + 8) (kinds + 1) n)

module _ (d : List ℕ) (bytes : IsBytes d) where
  words_again : (at n : ℕ) → at + 8 * n ≤ length d → word_bytes (words_from d at n) ≡ take (8 * n) (drop at d)
  unfolding word_bytes
  words_again at zero h = refl
  words_again at (suc n) h =
      let e : 8 + 8 * n ≡ 8 * suc n = omega arith in
      ap₂ (λ (x y : List ℕ). x ++ y) (little_again d bytes at 8 (omega arith)) (words_again (at + 8) n (omega arith) ∙ ap (take (8 * n)) (sym (drop-drop 8 at d)))
      ∙ sym (take-add 8 (8 * n) (drop at d)) ∙ ap (λ (k : ℕ). take k (drop at d)) e

  ids_again : (ids kinds n : ℕ) → ids_of (entries_at d ids kinds n) ≡ words_from d ids n
  unfolding entries_at
  ids_again ids kinds zero = refl
  ids_again ids kinds (suc n) =
      ap₂ (λ (x : ℕ) (xs : List ℕ). x ∷ xs) (bits_again (word_at d ids) (little_below d bytes ids 8)) (ids_again (ids + 8) (kinds + 1) n)

  kinds_again : (ids kinds n : ℕ) → kinds + n ≤ length d → kinds_of (entries_at d ids kinds n) ≡ take n (drop kinds d)
  unfolding entries_at
  kinds_again ids kinds zero h = refl
  kinds_again ids kinds (suc n) h =
      ap (λ (xs : List ℕ). get_or d kinds 0 ∷ xs) (kinds_again (ids + 8) (kinds + 1) n (omega arith))
      ∙ ap (λ (k : ℕ). get_or d kinds 0 ∷ take n (drop k d)) (add-one kinds) ∙ sym (ap (take (suc n)) (drop-cons d kinds 0 (omega arith)))

  words_is : words_of (session_at d) ≡ words_from d 0 35
  unfolding session_at
  words_is =
      let h = bits_again (word_at d 8) (little_below d bytes 8 8) in
      let l = bits_again (word_at d 16) (little_below d bytes 16 8) in
      let t : ids_of (entries_at d 24 280 16) ++ ids_of (entries_at d 152 296 16) ≡ words_from d 24 32 =
      ap₂ (λ (x y : List ℕ). x ++ y) (ids_again 24 280 16) (ids_again 152 296 16) ∙ sym (words_split d 24 16 16) in
      ap₂ (λ (x : ℕ) (xs : List ℕ). word_at d 0 ∷ (x ∷ xs)) h (ap₂ (λ (x : ℕ) (xs : List ℕ). x ∷ xs) l t)

  pub part_then : (at n : ℕ) → take n (drop at d) ++ drop (at + n) d ≡ drop at d
  part_then at n = ap (λ (l : List ℕ). take n (drop at d) ++ l) (sym (drop-drop n at d)) ∙ take-append-drop n (drop at d)

  module _ (t : Tested d) where
    long : length d ≡ 368
    long = t.long

    tail_is : state_byte (state_of (get_or d 344 0)) ∷ (mark_byte (not (eqb (get_or d 345 0) 0)) ∷ replicate 22 0) ≡ drop 344 d
    tail_is =
        let n : length (drop 346 d) ≡ 22 = length-drop 346 d ∙ omega arith in
        let z : drop 346 d ≡ replicate 22 0 = zeros_again (drop 346 d) t.spare ∙ ap (λ (k : ℕ). replicate k 0) n in
        ap₂ (λ (x : ℕ) (xs : List ℕ). x ∷ xs) (state_again (get_or d 344 0) t.state)
        (ap₂ (λ (x : ℕ) (xs : List ℕ). x ∷ xs) (mark_again (get_or d 345 0) t.stored) (sym z))
        ∙ sym (drop-cons d 344 0 (omega arith) ∙ ap (λ (l : List ℕ). get_or d 344 0 ∷ l) (drop-cons d 345 0 (omega arith)))

    bytes_is : tail_of (session_at d) ≡ drop 280 d
    unfolding session_at
    bytes_is =
        ap₂ (λ (x y : List ℕ). x ++ y) (kinds_again 24 280 16 (omega arith))
        (ap₂ (λ (x y : List ℕ). x ++ y) (kinds_again 152 296 16 (omega arith))
        (ap (λ (l : List ℕ). take 16 (drop 312 d) ++ (take 16 (drop 328 d) ++ l)) tail_is
        ∙ ap (λ (l : List ℕ). take 16 (drop 312 d) ++ l) (part_then 328 16) ∙ part_then 312 16)
        ∙ part_then 296 16)
        ∙ part_then 280 16

    pub image_back : session_image (session_at d) ≡ d
    unfolding session_image
    image_back =
        ap₂ (λ (x y : List ℕ). x ++ y) (ap word_bytes words_is ∙ words_again 0 35 (omega arith)) bytes_is
        ∙ take-append-drop 280 d

-- the lists of a session that lies in memory have their lengths
pub record Sized (s : Session) : Type 0 where
  pub station : length s.station ≡ 16
  pub centre : length s.centre ≡ 16
  pub bs_uuid : length s.sn_bs_uuid ≡ 16
  pub sc_uuid : length s.sn_sc_uuid ≡ 16

pub sized : (d : List ℕ) → length d ≡ 368 → Sized (session_at d)
unfolding session_at
sized d l = record {
  station = entries_long d 24 280 16;
  centre = entries_long d 152 296 16;
  bs_uuid = length-take-le 16 (drop 312 d) (omega (arith, length-drop 312 d));
  sc_uuid = length-take-le 16 (drop 328 d) (omega (arith, length-drop 328 d));
}
