-- The bits of the float 64 with a finite float 32's value. The fields of the float 32 say q and k of its value q * 2 ^ k / 2 ^ 149, and a float 64 writes that by one law,
-- with q moved up until its leading digit is the 53rd: by 29 where the field is above 0, by 53 less the digits' length where it is 0, and a zero is its sign alone.
-- Assumes nothing.
use mathlib.Core.Path.{◌≡◌, refl, sym, ap, ◌∙◌, subst}
use mathlib.Core.Bool.{Bool, true, false, not, cond}
use Prim.Native.Nat.{ℕ, zero, suc, ◌+◌, ◌-◌, ◌*◌, ◌/◌, ◌%◌, ◌^◌, ◌≤◌, ◌<◌}
use native.Mathlib.Nat.{le_trans, le_of_eq, lt_of_not-le, not-le_of_lt, mul-le-mul_right, mod-lt}
use native.Mathlib.Omega.{arith}
use lib.Count.{count_leading_zeros, leading_top}
use lib.Dec.{T, leb, eqb, leb→le, nleb→lt}
use lib.Ieee.{binary32, binary64, size, of_fields, of_bits, to_bits}
use lib.Ieee.Bits.{of_bits-fits, of_bits-to_bits, cond_no}
use lib.Ieee.Fits.{fits_widens}
use lib.Pow.{pow-add, pow_pos, pow_mono, shl_lt}
use Rattle.number.specs.Number.{finite}
use Rattle.number.proofs.Scaled.{written}

abbrev sign_bit : Bool → ℕ
sign_bit s = cond s (2 ^ 63) 0

-- by the float 32's sign s, field x and digits t
module _ (s : Bool) where
  normal : (x t : ℕ) → 0 < x → T (not (eqb x 255)) → t < 2 ^ 23 → to_bits binary64 (of_fields binary32 s x t) ≡ sign_bit s + (x + 896) * 2 ^ 52 + t * 2 ^ 29
  unfolding of_fields
  normal zero t p e h = absurd (omega arith)
  normal (suc x) t p e h =
      ap (to_bits binary64) (cond_no (eqb (suc x) 255) _ _ e)
      ∙ written binary64 149 925 refl 24 s (2 ^ 23 + t) x 29 (x + 896) (omega arith) (omega arith) (omega arith)
      ∙ omega arith

  signed_zero : to_bits binary64 (of_fields binary32 s 0 0) ≡ sign_bit s
  unfolding of_fields to_bits size
  signed_zero = go s
    where
      go : (s : Bool) → to_bits binary64 (of_fields binary32 s 0 0) ≡ sign_bit s
      go true = refl
      go false = refl

  subnormal : (t i k : ℕ) → 2 ^ 52 ≤ t * 2 ^ i → t * 2 ^ i < 2 ^ 53 → i + k ≡ 53 → to_bits binary64 (of_fields binary32 s 0 t) ≡ sign_bit s + (k + 872) * 2 ^ 52 + t * 2 ^ i
  unfolding of_fields
  subnormal t i k lo hi e = written binary64 149 925 refl 24 s t 0 i (k + 872) lo hi (omega arith)

-- what the code takes from n
abbrev sign : ℕ → ℕ
sign n = n / 2 ^ 31 * 2 ^ 63

abbrev field : ℕ → ℕ
field n = n % 2 ^ 31 / 2 ^ 23

abbrev digits : ℕ → ℕ
digits n = n % 2 ^ 23

abbrev length_of : ℕ → ℕ
length_of n = 64 - count_leading_zeros 64 (digits n)

-- the digits with the leading one moved to the 53rd place
abbrev moved : ℕ → ℕ
moved n = digits n * 2 ^ (53 - length_of n)

module _ (n : ℕ) (some : digits n ≡ 0 → ⊥) where
  in_place : (length_of n ≤ 23) × (2 ^ 52 ≤ moved n) × (moved n < 2 ^ 53)
  in_place =
      let j = leading_top 64 (digits n) (omega arith) (omega arith) in
      let few : j.0 < 23 = lt_of_not-le (λ (g : 23 ≤ j.0). not-le_of_lt (mod-lt n (pow_pos 23)) (le_trans (pow_mono g) j.2)) in
      let i = 53 - length_of n in
      let lo : j.0 + i ≡ 52 = omega (arith, j.1) in
      let hi : suc j.0 + i ≡ 53 = omega arith in (
        omega arith,
        le_trans (le_of_eq (ap (λ (x : ℕ). 2 ^ x) (sym lo) ∙ pow-add 2 j.0 i)) (mul-le-mul_right (2 ^ i) j.2),
        subst (λ (x : ℕ). digits n * 2 ^ i < 2 ^ x) hi (shl_lt (suc j.0) i j.3),
      )

  pub length_few : length_of n ≤ 53
  length_few = omega (arith, in_place.0)

  pub moved_below : moved n % 2 ^ 64 < 2 ^ 53
  moved_below = omega (arith, in_place.2)

sign_is : (n : ℕ) → n < 2 ^ 32 → sign n ≡ sign_bit (leb (2 ^ 31) n)
sign_is n h = go (leb (2 ^ 31) n) (leb→le (2 ^ 31) n) (nleb→lt (2 ^ 31) n)
  where
    go : (s : Bool) → (T s → 2 ^ 31 ≤ n) → (T (not s) → n < 2 ^ 31) → sign n ≡ sign_bit s
    go true l g = omega (arith, l tt)
    go false l g = omega (arith, g tt)

-- the bits that a float 64 writes for n's fields are read as n's value: it fits a float 64
module _ (n r : ℕ) where
  same_value : to_bits binary64 (of_fields binary32 (leb (2 ^ 31) n) (field n) (digits n)) ≡ r → of_bits binary64 r ≡ of_bits binary32 n
  unfolding of_bits
  same_value e = ap (of_bits binary64) (sym e) ∙ of_bits-to_bits binary64 (of_bits binary32 n) (fits_widens (of_bits binary32 n) (of_bits-fits binary32 n))

  module _ (h : n < 2 ^ 32) where
    pub normal_is : 0 < field n → r ≡ sign n + (field n + 896) * 2 ^ 52 + digits n * 2 ^ 29 → T (finite binary32 n) → of_bits binary64 r ≡ of_bits binary32 n
    normal_is p e f = same_value (normal (leb (2 ^ 31) n) (field n) (digits n) p f (omega arith) ∙ omega (arith, sign_is n h))

    module _ (z : field n ≤ 0) where
      flat : field n ≡ 0
      flat = omega arith

      pub signed_zero_is : digits n ≡ 0 → r ≡ sign n → of_bits binary64 r ≡ of_bits binary32 n
      signed_zero_is d e = same_value (rw (flat, d) (signed_zero (leb (2 ^ 31) n) ∙ omega (arith, sign_is n h)))

      pub subnormal_is : (digits n ≡ 0 → ⊥) → r ≡ sign n + (length_of n + 872) * 2 ^ 52 + moved n % 2 ^ 64 → of_bits binary64 r ≡ of_bits binary32 n
      subnormal_is d e =
          let m = in_place n d in
          same_value (rw flat (subnormal (leb (2 ^ 31) n) (digits n) (53 - length_of n) (length_of n) m.1 m.2 (omega arith) ∙ omega (arith, sign_is n h)))
