-- How large a real is, by the exponent's field x and the digits t of its bits, in units of the smallest: larger bits are a larger number. With h the weight of the
-- exponent's field. Assumes nothing.
use mathlib.Core.{Path.◌≡◌, Path.ap, Logic.◌⊎◌, Logic.inl, Logic.inr}
use Prim.Native.Nat.{ℕ, zero, suc, ◌+◌, ◌*◌, ◌^◌, ◌≤◌, ◌<◌}
use native.Mathlib.Nat.{lt_of_lt_of_le, mul-le-mul, mul-le-mul_right, mul-lt-mul_of_pos_right, le_of_suc-le-suc, lt_of_not-le, pow-succ', eq-or-lt_of_le}
use native.Mathlib.Omega.{arith}
use lib.Pow.{pow_pos, pow_mono}

abbrev pub units_at : ℕ → ℕ → ℕ → ℕ
units_at h zero t = t
units_at h (suc x) t = (h + t) * 2 ^ x

module _ (h : ℕ) where
  -- a lower field is a smaller number, whatever the digits
  doubled : (t x : ℕ) → t < h → (h + t) * 2 ^ x < h * 2 ^ suc x
  doubled t x l = rw (pow-succ' 2 x) (omega (arith, mul-lt-mul_of_pos_right {k = 2 ^ x} (let k : h + t < 2 * h = omega arith in k) (pow_pos x)))

  lower_field : (t x u y : ℕ) → t < h → x < y → (h + t) * 2 ^ x < (h + u) * 2 ^ y
  lower_field t x u y l k = lt_of_lt_of_le (doubled t x l) (mul-le-mul (let g : h ≤ h + u = omega arith in g) (pow_mono k))

  no_lower : (x t y u : ℕ) → u < h → suc x * h + t < suc y * h + u → x ≤ y
  no_lower x t y u U l = le_of_suc-le-suc (lt_of_not-le (λ (k : y < x). omega (arith, mul-le-mul_right h k)))

  pub larger : (x t y u : ℕ) → t < h → u < h → x * h + t < y * h + u → units_at h x t < units_at h y u
  larger zero t zero u T U l = omega arith
  larger zero t (suc y) u T U l = omega (arith, mul-le-mul {n₁ = h} {n₂ = h + u} (omega arith) (pow_pos y))
  larger (suc x) t zero u T U l = absurd (omega arith)
  larger (suc x) t (suc y) u T U l = go (eq-or-lt_of_le (no_lower x t y u U l))
    where
      go : (x ≡ y) ⊎ (x < y) → (h + t) * 2 ^ x < (h + u) * 2 ^ y
      go (inl e) = rw e (mul-lt-mul_of_pos_right (let k : h + t < h + u = omega (arith, ap (λ (z : ℕ). z * h) e) in k) (pow_pos y))
      go (inr k) = lower_field t x u y T k
