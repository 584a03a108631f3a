-- The bits of the float 64 with a whole number's value, of either sign: its digits are moved until the leading one is the 53rd, and what is left of the scale is
-- the exponent's field. Up to 2^53 no digit is lost on the way, so the value is the number's. Assumes nothing.
use mathlib.Core.Path.{◌≡◌, refl, sym, ap, ◌∙◌, subst}
use mathlib.Core.{Bool.Bool, Bool.true, Bool.false, Bool.cond, Logic.◌⊎◌, Logic.inl, Logic.inr}
use Prim.Native.Nat.{ℕ, suc, ◌+◌, ◌-◌, ◌*◌, ◌/◌, ◌%◌, ◌^◌, ◌≤◌, ◌<◌}
use native.Mathlib.Nat.{le_trans, le_of_eq, lt_of_not-le, not-le_of_lt, lt_of_lt_of_le, mul_assoc, mul_right_comm, mul-one, mul-le-mul_right, eq-or-lt_of_le, eq_of_mul-eq-mul_right}
use native.Mathlib.Omega.{arith}
use lib.Count.{count_leading_zeros, leading_le, leading_top}
use lib.Ieee.{Float, nan, inf, fin, binary64, odd, up, down, of_bits}
use lib.Ieee.Bits.{of_bits-to_bits}
use lib.Ieee.Fits.{odd-fits}
use lib.Ieee.Exact.{HasValue, odd_sign}
use lib.Pow.{pow-add, pow_pos, pow_mono, shl_lt}
use Rattle.number.proofs.Scaled.{written}

-- the same value over another denominator
over_one : (x : Float) (s : Bool) (n c : ℕ) → 0 < c → HasValue x s (n * c) c → HasValue x s n 1
over_one nan s n c h v = v
over_one (inf t) s n c h v = v
over_one (fin t m e) s n c h v =
    (v.0, eq_of_mul-eq-mul_right c h (m * up e * 1) (n * down e) (ap (λ (x : ℕ). x * c) (mul-one (m * up e)) ∙ v.1 ∙ mul_right_comm n c (down e)))

-- q is n moved up by j digits and down by 11, and none was lost: its leading digit is the 53rd
module _ (s : Bool) (n j q : ℕ) (same : q * 2 ^ 11 ≡ n * 2 ^ j) (few : j < 64) (lo : 2 ^ 52 ≤ q) (hi : q < 2 ^ 53) where
  abbrev scale : ℕ
  scale = 1085 - j

  abbrev moved : Float
  moved = odd 53 s q scale 1074

  in_scale : q * 2 ^ scale ≡ n * 2 ^ 1074
  in_scale =
      let a : scale + j ≡ 11 + 1074 = omega arith in
      eq_of_mul-eq-mul_right (2 ^ j) (pow_pos j) (q * 2 ^ scale) (n * 2 ^ 1074)
      (mul_assoc q (2 ^ scale) (2 ^ j) ∙ ap (λ (x : ℕ). q * x) (sym (pow-add 2 scale j) ∙ ap (λ (x : ℕ). 2 ^ x) a ∙ pow-add 2 11 1074)
      ∙ sym (mul_assoc q (2 ^ 11) (2 ^ 1074)) ∙ ap (λ (x : ℕ). x * 2 ^ 1074) same ∙ mul_right_comm n (2 ^ j) (2 ^ 1074))

  below_all : q * 2 ^ scale < 2 ^ (1074 + 1024)
  below_all =
      let few : 53 + scale ≤ 1074 + 1024 = omega arith in
      lt_of_lt_of_le (shl_lt 53 scale hi) (pow_mono few)

  abbrev bits : ℕ
  bits = cond s (2 ^ 63) 0 + scale * 2 ^ 52 + q

  bits_moved : of_bits binary64 bits ≡ moved
  bits_moved =
      ap (of_bits binary64) (sym (written binary64 1074 0 refl 53 s q scale 0 scale (omega arith) (omega arith) (omega arith) ∙ omega arith))
      ∙ of_bits-to_bits binary64 moved (odd-fits binary64 53 s q scale hi (omega arith) below_all)

  exact : HasValue (of_bits binary64 bits) s n 1
  exact =
      subst (λ (x : Float). HasValue x s n 1) (sym bits_moved)
      (over_one moved s n (2 ^ 1074) (pow_pos 1074) (subst (λ (x : ℕ). HasValue moved s x (2 ^ 1074)) in_scale (odd_sign 53 s q scale 1074)))

-- what the code makes of n
abbrev shifted : ℕ → ℕ
shifted n = n * 2 ^ count_leading_zeros 64 n

module _ (n : ℕ) (some : n ≡ 0 → ⊥) (wide : n < 2 ^ 64) where
  abbrev zeros : ℕ
  zeros = count_leading_zeros 64 n

  lead : (j : ℕ) × (zeros + suc j ≡ 64) × (2 ^ j ≤ n) × (n < 2 ^ suc j)
  lead = leading_top 64 n (omega arith) wide

  zeros_few : zeros < 64
  zeros_few = omega (arith, lead.1)

  in_place : (2 ^ 63 ≤ shifted n) × (shifted n < 2 ^ 64)
  in_place =
      let j = lead.0 in
      let lo : j + zeros ≡ 63 = omega (arith, lead.1) in
      let hi : suc j + zeros ≡ 64 = omega (arith, lead.1) in (
        le_trans (le_of_eq (ap (λ (x : ℕ). 2 ^ x) (sym lo) ∙ pow-add 2 j zeros)) (mul-le-mul_right (2 ^ zeros) lead.2),
        subst (λ (x : ℕ). shifted n < 2 ^ x) hi (shl_lt (suc j) zeros lead.3),
      )

  shifted_whole : shifted n % 2 ^ 64 ≡ shifted n
  shifted_whole = omega (arith, in_place.1)

  -- up to 2 ^ 53 the eleven digits that are cut are zeros
  multiple : n ≤ 2 ^ 53 → (a : ℕ) × (shifted n ≡ a * 2 ^ 11)
  multiple h = go (eq-or-lt_of_le h)
    where
      go : (n ≡ 2 ^ 53) ⊎ (n < 2 ^ 53) → (a : ℕ) × (shifted n ≡ a * 2 ^ 11)
      go (inl e) = (2 ^ 42 * 2 ^ zeros, ap (λ (x : ℕ). x * 2 ^ zeros) e ∙ mul_right_comm (2 ^ 42) (2 ^ 11) (2 ^ zeros))
      go (inr l) =
          let few : lead.0 < 53 = lt_of_not-le (λ (g : 53 ≤ lead.0). not-le_of_lt l (le_trans (pow_mono g) lead.2)) in
          let i = zeros - 11 in
          let e : i + 11 ≡ zeros = omega (arith, lead.1) in
          (n * 2 ^ i, ap (λ (x : ℕ). n * x) (ap (λ (x : ℕ). 2 ^ x) (sym e) ∙ pow-add 2 i 11) ∙ sym (mul_assoc n (2 ^ i) (2 ^ 11)))

  bits_exact : (s : Bool) → n ≤ 2 ^ 53 → HasValue (of_bits binary64 (cond s (2 ^ 63) 0 + (1085 - zeros) * 2 ^ 52 + shifted n % 2 ^ 64 / 2 ^ 11)) s n 1
  bits_exact s h =
      let m = multiple h in
      exact s n zeros (shifted n % 2 ^ 64 / 2 ^ 11) (omega (arith, shifted_whole, m.1)) zeros_few (omega (arith, shifted_whole, in_place.0)) (omega (arith, shifted_whole, in_place.1))

-- 0 has its sign alone
zero_exact : (s : Bool) → HasValue (of_bits binary64 (cond s (2 ^ 63) 0)) s 0 1
unfolding of_bits
zero_exact true = (refl, refl)
zero_exact false = (refl, refl)

sign_low : (s : Bool) → cond s (2 ^ 63) 0 ≤ 2 ^ 63
sign_low true = omega arith
sign_low false = omega arith

-- the same in the shape of the code's needs
pub zeros_fit : (n : ℕ) → count_leading_zeros 64 n < 2 ^ 64
zeros_fit n = omega (arith, leading_le 64 n)

pub zeros_under : (n : ℕ) → count_leading_zeros 64 n ≤ 1085
zeros_under n = omega (arith, leading_le 64 n)

pub zeros_shift : (n : ℕ) → n < 2 ^ 64 → (n ≡ 0 → ⊥) → count_leading_zeros 64 n < 64
zeros_shift n w h = zeros_few n h w

module _ (s : Bool) (sign : ℕ) (e : sign ≡ cond s (2 ^ 63) 0) where
  pub scale_fits : (z : ℕ) → sign + (1085 - z) * 2 ^ 52 < 2 ^ 64
  scale_fits z = omega (arith, e, sign_low s)

  pub sum_fits : (z d : ℕ) → sign + (1085 - z) * 2 ^ 52 + d % 2 ^ 64 / 2 ^ 11 < 2 ^ 64
  sum_fits z d = omega (arith, e, sign_low s)

  pub zero_is : (n : ℕ) → n ≡ 0 → HasValue (of_bits binary64 sign) s n 1
  zero_is n h = rw (e, h) (zero_exact s)

  pub bits_are : (n : ℕ) → n < 2 ^ 64 → (n ≡ 0 → ⊥) → n ≤ 2 ^ 53
      → HasValue (of_bits binary64 (sign + (1085 - count_leading_zeros 64 n) * 2 ^ 52 + n * 2 ^ count_leading_zeros 64 n % 2 ^ 64 / 2 ^ 11)) s n 1
  bits_are n w h m = rw e (bits_exact n h w s m)

pub ruleset exact_bits = (zeros_fit, zeros_under, zeros_shift, scale_fits, sum_fits, zero_is, bits_are, arith)
