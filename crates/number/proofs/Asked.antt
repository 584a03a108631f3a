-- What a float 32 asks of a real that is m * 2 ^ p times 2 ^ -1074 with an odd m, and how a q * 2 ^ k of the same size answers: below 2 ^ -149 and from 2 ^ 128 on by its size,
-- and between them, with a q of 53 digits, by the zeros at q's end, in one argument over k. Assumes nothing.
use mathlib.Core.Path.{◌≡◌, sym, ap, ◌∙◌, subst}
use mathlib.Core.Bool.{Bool, false, ◌&&◌, and-false}
use Prim.Native.Nat.{ℕ, suc, ◌+◌, ◌-◌, ◌*◌, ◌/◌, ◌%◌, ◌^◌, ◌≤◌, ◌<◌}
use native.Mathlib.Nat.{le_of_suc-le-suc, lt_of_not-le, lt_of_lt_of_le, lt_of_le_of_lt, not-le_of_lt, add-zero, mul_assoc, mul_comm, mul_left_comm, pow-suc, mul-le-mul_right, mul-mod_left, lt_of_mul-lt-mul_right, eq_of_mul-eq-mul_right}
use native.Mathlib.Omega.{arith}
use lib.Dec.{T, leb, ltb, eqb, leb→le, ltb→lt}
use lib.Ieee.Fits.{and_l, and_r}
use lib.Pow.{pow-add, pow_pos, pow_mono, shl_lt, split}
use borrow.Author.Tests.{lt-ltb, le-ltb, le-leb, lt-leb, eq-eqb, eqb-true}
use Rattle.octets.proofs.Ranges.{same_test}

-- at most 24 digits, none below 2 ^ -149, and nothing from 2 ^ 128 on
abbrev pub asked : ℕ → ℕ → Bool
asked m p = ltb m (2 ^ 24) && leb 925 p && ltb (m * 2 ^ p) (2 ^ 1202)

-- how many of 53 digits, k places up, it has no place for
abbrev pub lost : ℕ → ℕ
lost k = 29 + (896 - k)

pub pow_below : (a b : ℕ) → 2 ^ a < 2 ^ b → a < b
pow_below a b h = lt_of_not-le (λ (g : b ≤ a). not-le_of_lt h (pow_mono g))

module _ (m p : ℕ) (o : m % 2 ≡ 1) (q k : ℕ) (same : m * 2 ^ p ≡ q * 2 ^ k) where
  pub too_low : q * 2 ^ k < 2 ^ 925 → asked m p ≡ false
  too_low h =
      let one : 1 ≤ m = omega arith in
      let g : p < 925 = pow_below p 925 (lt_of_le_of_lt (omega (arith, mul-le-mul_right (2 ^ p) one)) h) in
      simp (lt-leb 925 p g, and-false)

  pub too_high : 2 ^ 1202 ≤ q * 2 ^ k → asked m p ≡ false
  too_high h = simp (le-ltb (m * 2 ^ p) (2 ^ 1202) (rw same h), and-false)

  -- no larger power of two divides it
  last : (r j : ℕ) → q * 2 ^ k ≡ r * 2 ^ j → j ≤ p
  last r j e = le_of_suc-le-suc (lt_of_not-le (λ (g : p < j).
      let i = j - suc p in
      let a : i + suc p ≡ j = omega arith in
      let b : m ≡ r * 2 ^ i * 2 = eq_of_mul-eq-mul_right (2 ^ p) (pow_pos p) m (r * 2 ^ i * 2) (same ∙ e ∙ ap (λ (x : ℕ). r * 2 ^ x) (sym a) ∙ simp (pow-add, pow-suc, mul_assoc, mul_comm, mul_left_comm)) in
      omega arith))

  module _ (lo : 2 ^ 52 ≤ q) (hi : q < 2 ^ 53) where
    few_digits : m < 2 ^ 24 → 925 ≤ p → lost k + k ≤ p
    few_digits h d = let l : 52 + k < 24 + p = pow_below (52 + k) (24 + p) (omega (arith, pow-add 2 52 k, mul-le-mul_right (2 ^ k) lo, shl_lt 24 p h)) in omega arith

    short : lost k + k ≤ p → m < 2 ^ 24
    short h = let l : 53 + k ≤ 24 + p = omega arith in let g : 2 ^ (53 + k) ≤ 2 ^ (24 + p) = pow_mono l in lt_of_mul-lt-mul_right (2 ^ p) (omega (arith, shl_lt 53 k hi, pow-add 2 24 p))

    end_zeros : lost k + k ≤ p → q % 2 ^ lost k ≡ 0
    end_zeros h =
        let i = p - (lost k + k) in
        let a : i + (lost k + k) ≡ p = omega arith in
        let b : q ≡ m * 2 ^ i * 2 ^ lost k = eq_of_mul-eq-mul_right (2 ^ k) (pow_pos k) q (m * 2 ^ i * 2 ^ lost k) (sym same ∙ ap (λ (x : ℕ). m * 2 ^ x) (sym a) ∙ simp (pow-add, mul_assoc)) in
        ap (λ (x : ℕ). x % 2 ^ lost k) b ∙ mul-mod_left (m * 2 ^ i) (2 ^ lost k)

    zeros_end : q % 2 ^ lost k ≡ 0 → lost k + k ≤ p
    zeros_end z = last (q / 2 ^ lost k) (lost k + k) (ap (λ (x : ℕ). x * 2 ^ k) (sym (split q (lost k)) ∙ ap (λ (x : ℕ). q / 2 ^ lost k * 2 ^ lost k + x) z) ∙ simp (pow-add, mul_assoc, add-zero))

    below : k < 1150 → m * 2 ^ p < 2 ^ 1202
    below h = let l : 53 + k ≤ 1202 = omega arith in rw same (lt_of_lt_of_le (shl_lt 53 k hi) (pow_mono l))

    pub by_digits : k < 1150 → asked m p ≡ eqb (q % 2 ^ lost k) 0
    by_digits h = same_test (asked m p) (eqb (q % 2 ^ lost k) 0)
        (λ e.
        let t : T (asked m p) = subst T (sym e) tt in
        eq-eqb (q % 2 ^ lost k) 0 (end_zeros (few_digits (ltb→lt m (2 ^ 24) (search (and_l, and_r, t))) (leb→le 925 p (search (and_l, and_r, t))))))
        (λ e.
        let g = zeros_end (eqb-true (q % 2 ^ lost k) 0 e) in
        let d : 925 ≤ p = omega arith in
        simp (lt-ltb m (2 ^ 24) (short g), le-leb 925 p d, lt-ltb (m * 2 ^ p) (2 ^ 1202) (below h)))
