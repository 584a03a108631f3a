-- The bits that a format writes for q * 2 ^ k / 2 ^ l: with q moved up by the i that brings its leading digit to its place, what is left of the scale is the
-- exponent's field without that digit. Assumes nothing.
use mathlib.Core.Path.{◌≡◌, sym, ap, ◌∙◌}
use mathlib.Core.Bool.{Bool, cond}
use Prim.Native.Nat.{ℕ, zero, suc, ◌+◌, ◌-◌, ◌*◌, ◌/◌, ◌^◌, ◌≤◌, ◌<◌}
use native.Mathlib.Nat.{le_trans, le_of_eq, lt_of_not-le, not-le_of_lt, zero-mul, mul_assoc, mul_right_comm, mul-le-mul_right, mul-div_cancel}
use native.Mathlib.Omega.{arith}
use lib.{Count.count_trailing_zeros, IntN.ℤ}
use lib.Ieee.{Format, prec, low, up, down, minus, size, odd, hid, top, to_bits}
use lib.Ieee.Digits.{odd_val, size-lt, size-le}
use lib.Ieee.Fits.{two, down_pos}
use lib.Pow.{pow-add, pow_pos, pow_mono, shl_lt}

-- of a number with its leading digit in place, moved up by h, just h digits are cut
cut_is : (f : Format) (a h : ℕ) → hid f ≤ a → a < 2 ^ prec f → size (a * 2 ^ h) - prec f ≡ h
cut_is f a h lo hi = only (size (a * 2 ^ h)) (prec f) (two f) (size-le (a * 2 ^ h) (prec f + h) (shl_lt (prec f) h hi)) (lt_of_not-le (λ (g : size (a * 2 ^ h) ≤ prec f - 1 + h).
    not-le_of_lt (size-lt (a * 2 ^ h)) (le_trans (pow_mono g) (le_trans (le_of_eq (pow-add 2 (prec f - 1) h)) (mul-le-mul_right (2 ^ h) lo)))))
  where
    only : (z p : ℕ) → 2 ≤ p → z ≤ p + h → p - 1 + h < z → z - p ≡ h
    only z p m l g = omega arith

module _ (f : Format) (l c : ℕ) (finer : low f ≡ l + c) where
  -- a / 2 ^ l in units of the format's smallest value
  in_units : (m : ℕ) (e : ℤ) (a : ℕ) → m * up e * 2 ^ l ≡ a * down e → m * up e * 2 ^ low f / down e ≡ a * 2 ^ c
  in_units m e a v =
      ap (λ (x : ℕ). x / down e) (ap (λ (x : ℕ). m * up e * x) (ap (λ (x : ℕ). 2 ^ x) finer ∙ pow-add 2 l c) ∙ sym (mul_assoc (m * up e) (2 ^ l) (2 ^ c)) ∙ ap (λ (x : ℕ). x * 2 ^ c) v ∙ mul_right_comm a (down e) (2 ^ c))
      ∙ mul-div_cancel (a * 2 ^ c) (down_pos e)

  -- c is how much finer the format is than 2 ^ -l, and h the exponent's field without the leading digit
  pub written : (d : ℕ) (s : Bool) (q k i h : ℕ) → hid f ≤ q * 2 ^ i → q * 2 ^ i < 2 ^ prec f → k + c ≡ i + h
      → to_bits f (odd d s q k l) ≡ cond s (top f) 0 + h * hid f + q * 2 ^ i
  unfolding odd to_bits
  written d s zero k i h lo hi e = absurd (not-le_of_lt (pow_pos (prec f - 1)) (le_trans lo (le_of_eq (zero-mul (2 ^ i)))))
  written d s (suc q) k i h lo hi e =
      let t = count_trailing_zeros d (suc q) in
      let a = suc q * 2 ^ i in
      let same : suc q * 2 ^ k * 2 ^ c ≡ a * 2 ^ h =
      mul_assoc (suc q) (2 ^ k) (2 ^ c) ∙ ap (λ (x : ℕ). suc q * x) (sym (pow-add 2 k c) ∙ ap (λ (x : ℕ). 2 ^ x) e ∙ pow-add 2 i h) ∙ sym (mul_assoc (suc q) (2 ^ i) (2 ^ h)) in
      ap (λ (x : ℕ). cond s (top f) 0 + (size x - prec f) * hid f + x / 2 ^ (size x - prec f)) (in_units (suc q / 2 ^ t) (minus (k + t) l) (suc q * 2 ^ k) (odd_val d s (suc q) k l) ∙ same)
      ∙ ap (λ (x : ℕ). cond s (top f) 0 + x * hid f + a * 2 ^ h / 2 ^ x) (cut_is f a h lo hi)
      ∙ ap (λ (x : ℕ). cond s (top f) 0 + h * hid f + x) (mul-div_cancel a (pow_pos h))
