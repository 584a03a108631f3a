-- Sixteen bytes as two numbers, and four as one: what writes the numbers of bytes is the bytes, with zeros behind them where they were fewer, and the
-- numbers of what writes them are the numbers. Assumes nothing.
use mathlib.Core.Path.{◌≡◌, refl, sym, ap, ap₂, ◌∙◌}
use mathlib.Core.Bool.{Bool, true, false}
use mathlib.Core.List.{List, [], ◌∷◌, ◌++◌, append-nil}
use Prim.Native.Nat.{ℕ, zero, suc, ◌+◌, ◌-◌, ◌*◌, ◌/◌, ◌%◌, ◌^◌, ◌≤◌, ◌<◌}
use native.Mathlib.Nat.{pow-succ', add-zero, add-suc, div-one, div-div-eq-div-mul}
use native.Mathlib.Numerals.{add-one}
use native.Mathlib.Omega.{arith}
use lib.{Arith.digits_div, Arith.digits_mod, Dec.leb, Dec.lit<}
use borrow.Author.Tests.{leb-true, leb-false}
use lib.ListN.{length, get_or, drop, replicate, take-append-drop, length-drop, replicate-append-replicate, get_or-eq_default}
use lib.Seq.{take_all, drop-length, drop-append-le, drop-append-add}
use Rattle.octets.specs.{Number.big_at, Bytes.IsBytes, Bytes.big_bytes}
use Rattle.octets.proofs.{Places.same_big, Digits.length_big, Digits.big_here, Digits.big_again}
use Rattle.field.specs.Cell.{Cell}
use Rattle.record.specs.declared.Sixteen.{Sixteen}
use Rattle.record.specs.Record.{bytes_in, four_of, sixteen_of, sixteen_in}
use Rattle.record.specs.Says.{sixteen_bytes}
use Rattle.record.proofs.Typed.{Wide}

-- zeros behind bytes count as none
zero_there : (n k : ℕ) → ◌≡◌ {A = ℕ} (get_or (replicate n 0) k 0) 0
zero_there zero k = refl
zero_there (suc n) zero = refl
zero_there (suc n) (suc k) = zero_there n k

padded_there : (s : List ℕ) (n k : ℕ) → get_or (s ++ replicate n 0) k 0 ≡ get_or s k 0
padded_there [] n k = zero_there n k
padded_there (b ∷ s) n zero = refl
padded_there (b ∷ s) n (suc k) = padded_there s n k

padded_big : (s : List ℕ) (n at many : ℕ) → big_at (s ++ replicate n 0) at many ≡ big_at s at many
padded_big s n at many = same_big (s ++ replicate n 0) s at at many (λ k h. padded_there s n (at + k))

-- the numbers of what is written for them
pub four_back : (x : ℕ) → x < 2 ^ 32 → four_of (big_bytes 4 x) ≡ x
four_back x h = big_here 4 x h (big_bytes 4 x) 0 [] (sym (append-nil (big_bytes 4 x)))

pub sixteen_back : (x : Sixteen) → Wide x → sixteen_of (sixteen_bytes x) ≡ x
unfolding sixteen_bytes big_bytes
sixteen_back x w = λ i. record {
  high = big_here 8 x.high w.high (sixteen_bytes x) 0 (big_bytes 8 x.low) refl i;
  low = big_here 8 x.low w.low (sixteen_bytes x) 8 [] (sym (append-nil (big_bytes 8 x.low))) i;
}

pub sixteen_padded : (c : Cell) → sixteen_of (bytes_in c ++ replicate (16 - length (bytes_in c)) 0) ≡ sixteen_in c
sixteen_padded c =
    let behind = 16 - length (bytes_in c) in
    λ i. record { high = padded_big (bytes_in c) behind 0 8 i; low = padded_big (bytes_in c) behind 8 8 i }

-- the last digit
big_last : (m x : ℕ) → big_bytes (suc m) x ≡ big_bytes m (x / 256) ++ (x % 256 ∷ [])
unfolding big_bytes
big_last zero x = ap (λ (y : ℕ). y % 256 ∷ []) (div-one x)
big_last (suc m) x =
    ap₂ (λ (b : ℕ) (l : List ℕ). b ∷ l)
    (ap (λ (y : ℕ). y % 256) (ap (λ (y : ℕ). x / y) (pow-succ' 256 m) ∙ sym (div-div-eq-div-mul x 256 (256 ^ m))))
    (big_last m x)

-- zeros from the place k on are written as zeros, whatever stands before them
module _ (s : List ℕ) (at k : ℕ) (none : (j : ℕ) → k ≤ j → get_or s (at + j) 0 ≡ 0) where
  zeros_behind : (i : ℕ) → drop k (big_bytes (k + i) (big_at s at (k + i))) ≡ replicate i 0
  unfolding big_at
  zeros_behind zero =
      let e = length_big k (big_at s at k) in
      rw add-zero (ap (λ (n : ℕ). drop n (big_bytes k (big_at s at k))) (sym e) ∙ drop-length (big_bytes k (big_at s at k)))
  zeros_behind (suc i) =
      let x = big_at s at (k + i) in
      let z : get_or s (at + (k + i)) 0 ≡ 0 = none (k + i) (omega arith) in
      let q : (x * 256 + 0) / 256 ≡ x = digits_div x (lit< tt) in
      let r : (x * 256 + 0) % 256 ≡ 0 = digits_mod x (lit< tt) in
      rw (add-suc, big_at, z, big_last, q, r)
      (drop-append-le k (big_bytes (k + i) x) (0 ∷ []) (omega (arith, length_big (k + i) x))
      ∙ ap (λ (l : List ℕ). l ++ (0 ∷ [])) (zeros_behind i)
      ∙ replicate-append-replicate i 1 0 ∙ ap (λ (n : ℕ). replicate n 0) (add-one i))

-- fewer than sixteen: zeros behind them
module _ (s : List ℕ) where
  abbrev high : List ℕ
  high = big_bytes 8 (big_at s 0 8)

  abbrev low : List ℕ
  low = big_bytes 8 (big_at s 8 8)

  behind : (at k : ℕ) → length s ≤ at + k → k ≤ 8 → drop k (big_bytes 8 (big_at s at 8)) ≡ replicate (8 - k) 0
  behind at k h l =
      let e : k + (8 - k) ≡ 8 = omega arith in
      rw e at (zeros_behind s at k (λ j g. get_or-eq_default s 0 (omega arith)) (8 - k))

  pub sixteen_behind : length s ≤ 16 → drop (length s) (sixteen_bytes (record { high = big_at s 0 8; low = big_at s 8 8 })) ≡ replicate (16 - length s) 0
  unfolding sixteen_bytes
  sixteen_behind h = go (leb (length s) 8) refl
    where
      go : (b : Bool) → leb (length s) 8 ≡ b → drop (length s) (high ++ low) ≡ replicate (16 - length s) 0
      go true q =
          let n = leb-true (length s) 8 q in
          let e : 8 - length s + 8 ≡ 16 - length s = omega arith in
          drop-append-le (length s) high low (omega (arith, length_big 8 (big_at s 0 8)))
          ∙ ap₂ (λ (a b : List ℕ). a ++ b) (behind 0 (length s) (omega arith) (omega arith)) (behind 8 0 (omega arith) (omega arith))
          ∙ replicate-append-replicate (8 - length s) 8 0
          ∙ ap (λ (k : ℕ). replicate k 0) e
      go false q =
          let n = leb-false (length s) 8 q in
          let e : length s ≡ length high + (length s - 8) = omega (arith, length_big 8 (big_at s 0 8)) in
          let f : 8 - (length s - 8) ≡ 16 - length s = omega arith in
          ap (λ (k : ℕ). drop k (high ++ low)) e
          ∙ drop-append-add high low (length s - 8)
          ∙ behind 8 (length s - 8) (omega arith) (omega arith)
          ∙ ap (λ (k : ℕ). replicate k 0) f

-- sixteen, or four
module _ (s : List ℕ) (bytes : IsBytes s) where
  pub sixteen_again : length s ≡ 16 → sixteen_bytes (record { high = big_at s 0 8; low = big_at s 8 8 }) ≡ s
  unfolding sixteen_bytes
  sixteen_again n =
      ap₂ (λ (a b : List ℕ). a ++ b) (big_again s bytes 0 8 (omega arith))
      (big_again s bytes 8 8 (omega arith) ∙ take_all 8 (drop 8 s) (omega (arith, length-drop 8 s)))
      ∙ take-append-drop 8 s

  pub four_again : length s ≡ 4 → big_bytes 4 (big_at s 0 4) ≡ s
  four_again n = big_again s bytes 0 4 (omega arith) ∙ take_all 4 s (omega arith)
