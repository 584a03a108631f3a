-- Which float 64s a float 32 holds, told from the bits: the definition asks what proofs/Asked asks of the odd m that a float is written with, and the exponent's field and the digits
-- say q and k of the same number q * 2 ^ k. Assumes nothing.
use mathlib.Core.Path.{◌≡◌, refl, sym, ap, ◌∙◌}
use mathlib.Core.Bool.{Bool, true, false, not, cond, ◌&&◌}
use Prim.Native.Nat.{ℕ, zero, suc, ◌+◌, ◌-◌, ◌*◌, ◌/◌, ◌%◌, ◌^◌, ◌≤◌, ◌<◌}
use native.Mathlib.Nat.{le_trans, le_of_eq, lt_of_lt_of_le, lt_of_le_of_lt, zero-mul, one-mul, mul_right_comm, mul-pos, mul-le-mul_right, mul-lt-mul_of_pos_right, mul-add-mod_self_right, lt_of_mul-lt-mul_right, eq_of_mul-eq-mul_right}
use native.Mathlib.Omega.{arith}
use lib.Count.{count_trailing_zeros}
use lib.Dec.{T, leb, ltb, eqb, leb→le, nleb→lt, eqb→eq, lit<, lit≤}
use lib.IntN.{ℤ, pos, negsuc}
use lib.Ieee.{Float, nan, inf, fin, binary32, binary64, up, down, minus, odd, of_fields, of_bits, to_bits, fits}
use lib.Ieee.Bits.{of_bits-to_bits}
use lib.Ieee.Digits.{odd_val, minus_val}
use lib.Ieee.Fits.{and_l, odd-fits, down_pos}
use lib.Pow.{pow-add, pow_pos, pow_mono, shl_lt, shl_exact, mod-mod-pow}
use borrow.Author.Tests.{le-leb, leb-true, eq-eqb, ne_eqb}
use Rattle.octets.proofs.Ranges.{same_test}
use Rattle.number.specs.Number.{finite}
use Rattle.number.proofs.{Finite.is_fin, Finite.bits_fin}
use Rattle.number.proofs.Asked.{asked, lost, pow_below, too_low, too_high, by_digits}

same_le : (a b c d : ℕ) → (a ≤ b → c ≤ d) → (c ≤ d → a ≤ b) → leb a b ≡ leb c d
same_le a b c d f g = same_test (leb a b) (leb c d) (λ e. le-leb c d (f (leb-true a b e))) (λ e. le-leb a b (g (leb-true c d e)))

-- the definition asks the same of m times 2 ^ (p - 1074)
module _ (m p : ℕ) where
  abbrev scale : ℤ
  scale = minus p 1074

  no_lower : leb (down scale) (2 ^ 149) ≡ leb 925 p
  no_lower = go (leb 1074 p) (leb→le 1074 p) (nleb→lt 1074 p)
    where
      go : (b : Bool) → (T b → 1074 ≤ p) → (T (not b) → p < 1074) → leb (down (cond b (pos (p - 1074)) (negsuc (1074 - suc p)))) (2 ^ 149) ≡ leb 925 p
      go true l g = let h : 925 ≤ p = omega (arith, l tt) in sym (le-leb 925 p h)
      go false l g =
          same_le (2 ^ suc (1074 - suc p)) (2 ^ 149) 925 p
          (λ h. let d : suc (1074 - suc p) < 150 = pow_below (suc (1074 - suc p)) 150 (lt_of_le_of_lt h (lit< tt)) in omega (arith, g tt))
          (λ h. let d : suc (1074 - suc p) ≤ 149 = omega (arith, g tt) in pow_mono d)

  no_higher : ltb (m * up scale) (2 ^ 128 * down scale) ≡ ltb (m * 2 ^ p) (2 ^ 1202)
  no_higher =
      let d = down scale in
      let v : m * up scale * 2 ^ 1074 ≡ m * 2 ^ p * d = minus_val m p 1074 in
      let w : 2 ^ 128 * d * 2 ^ 1074 ≡ 2 ^ 1202 * d = mul_right_comm (2 ^ 128) d (2 ^ 1074) in
      same_le (suc (m * up scale)) (2 ^ 128 * d) (suc (m * 2 ^ p)) (2 ^ 1202)
      (λ h. lt_of_mul-lt-mul_right d (rw (← v, ← w) (mul-lt-mul_of_pos_right h (pow_pos 1074))))
      (λ h. lt_of_mul-lt-mul_right (2 ^ 1074) (rw (v, w) (mul-lt-mul_of_pos_right h (down_pos scale))))

fits_odd : (s : Bool) (m : ℕ) (e : ℤ) → m % 2 ≡ 1 → fits binary32 (fin s m e) ≡ (ltb m (2 ^ 24) && leb (down e) (2 ^ 149) && ltb (m * up e) (2 ^ 128 * down e))
unfolding fits
fits_odd s zero e o = absurd (omega arith)
fits_odd s (suc m) e o = simp (eq-eqb (suc m % 2) 1 o)

fits_asked : (s : Bool) (m p : ℕ) → m % 2 ≡ 1 → fits binary32 (fin s m (minus p 1074)) ≡ asked m p
fits_asked s m p o = fits_odd s m (minus p 1074) o ∙ rw (no_lower m p, no_higher m p)

odd_of : (s : Bool) (m : ℕ) (e : ℤ) → 0 < m → T (fits binary64 (fin s m e)) → m % 2 ≡ 1
unfolding fits
odd_of s zero e h t = absurd (omega arith)
odd_of s (suc m) e h t = eqb→eq (suc m % 2) 1 (search (and_l, t))

-- q * 2 ^ k times 2 ^ -1074 is written with such an m
as_odd : (s : Bool) (q k : ℕ) → 0 < q → q < 2 ^ 53 → (m p : ℕ) × (odd 53 s q k 1074 ≡ fin s m (minus p 1074)) × (m % 2 ≡ 1) × (m * 2 ^ p ≡ q * 2 ^ k)
unfolding odd
as_odd s zero k h f = absurd (omega arith)
as_odd s (suc q) k h f =
    let t = count_trailing_zeros 53 (suc q) in
    let m = suc q / 2 ^ t in
    let e = minus (k + t) 1074 in
    let same : m * 2 ^ (k + t) ≡ suc q * 2 ^ k = eq_of_mul-eq-mul_right (down e) (down_pos e) (m * 2 ^ (k + t)) (suc q * 2 ^ k) (sym (minus_val m (k + t) 1074) ∙ odd_val 53 s (suc q) k 1074) in
    let some : 0 < m = lt_of_mul-lt-mul_right (2 ^ (k + t)) (rw (zero-mul, same) (mul-pos h (pow_pos k))) in
    (m, k + t, refl, odd_of s m (minus (0 + t) 1074) some (odd-fits binary64 53 s (suc q) 0 f (omega arith) (lt_of_lt_of_le (shl_lt 53 0 f) (lit≤ tt))), same)

by_odd : (s : Bool) (q k : ℕ) → 0 < q → q < 2 ^ 53 → (b : Bool) → ((m p : ℕ) → m % 2 ≡ 1 → m * 2 ^ p ≡ q * 2 ^ k → asked m p ≡ b) → fits binary32 (odd 53 s q k 1074) ≡ b
by_odd s q k h f b law =
    let a = as_odd s q k h f in
    ap (fits binary32) a.2 ∙ fits_asked s a.0 a.1 a.3 ∙ law a.0 a.1 a.3 a.4

-- the leading digit is none of the last j
unled : (t j : ℕ) → j ≤ 52 → (2 ^ 52 + t) % 2 ^ j ≡ t % 2 ^ j
unled t j h =
    let a : 52 - j + j ≡ 52 = omega arith in
    ap (λ (x : ℕ). (2 ^ x + t) % 2 ^ j) (sym a) ∙ ap (λ (x : ℕ). (x + t) % 2 ^ j) (pow-add 2 (52 - j) j) ∙ mul-add-mod_self_right (2 ^ (52 - j)) (2 ^ j) t

-- the test, by a float 64's sign s, field x and digits t
abbrev test : Bool → ℕ → ℕ → Bool
test s x t = not (eqb x 2047) && fits binary32 (of_fields binary64 s x t)

module _ (s : Bool) where
  -- below 2 ^ -149
  tiny : (q k : ℕ) → 0 < q → q < 2 ^ 53 → k < 873 → fits binary32 (odd 53 s q k 1074) ≡ false
  tiny q k some few g = let l : 53 + k ≤ 925 = omega arith in by_odd s q k some few false (λ m p o e. too_low m p o q k e (lt_of_lt_of_le (shl_lt 53 k few) (pow_mono l)))

  small : (x t : ℕ) → t < 2 ^ 52 → x < 874 → test s x t ≡ eqb (x * 2 ^ 52 + t) 0
  unfolding of_fields
  small zero zero h g = unfold odd fits in refl
  small zero (suc t) h g = tiny (suc t) 0 (omega arith) (omega arith) (omega arith) ∙ sym (ne_eqb (0 * 2 ^ 52 + suc t) 0 (omega arith))
  small (suc x) t h g =
      simp (ne_eqb (suc x) 2047 (omega arith), ne_eqb (suc x * 2 ^ 52 + t) 0 (omega arith)) (tiny (2 ^ 52 + t) x (omega arith) (omega arith) (omega arith))

  large : (x t : ℕ) → t < 2 ^ 52 → 1150 < x → test s x t ≡ false
  unfolding of_fields
  large zero t h g = absurd (omega arith)
  large (suc x) t h g = go (eqb (suc x) 2047)
    where
      go : (b : Bool) → (not b && fits binary32 (cond b (cond (eqb t 0) (inf s) nan) (odd 53 s (2 ^ 52 + t) x 1074))) ≡ false
      go true = refl
      go false =
          let l : 1202 ≤ 52 + x = omega arith in
          let lo : 2 ^ 52 ≤ 2 ^ 52 + t = omega arith in
          by_odd s (2 ^ 52 + t) x (omega arith) (omega arith) false
          (λ m p o e. too_high m p o (2 ^ 52 + t) x e (le_trans (pow_mono l) (le_trans (le_of_eq (pow-add 2 52 x)) (mul-le-mul_right (2 ^ x) lo))))

  between : (x t : ℕ) → t < 2 ^ 52 → 874 ≤ x → x ≤ 1150 → test s x t ≡ eqb (t % 2 ^ (29 + (897 - x))) 0
  unfolding of_fields
  between zero t h g l = absurd (omega arith)
  between (suc x) t h g l =
      let j : lost x ≡ 29 + (897 - suc x) = omega arith in
      simp (ne_eqb (suc x) 2047 (omega arith))
      (by_odd s (2 ^ 52 + t) x (omega arith) (omega arith) (eqb ((2 ^ 52 + t) % 2 ^ lost x) 0) (λ m p o e. by_digits m p o (2 ^ 52 + t) x e (omega arith) (omega arith) (omega arith))
      ∙ ap (λ (z : ℕ). eqb z 0) (unled t (lost x) (omega arith) ∙ ap (λ (z : ℕ). t % 2 ^ z) j))

-- the same in the shape of the code's needs
module _ (n : ℕ) where
  abbrev field : ℕ
  field = n % 2 ^ 63 / 2 ^ 52

  abbrev told : Bool
  told = finite binary64 n && fits binary32 (of_bits binary64 n)

  pub large_is : 1150 < field → false ≡ told
  unfolding of_bits
  large_is h = sym (large (leb (2 ^ 63) n) field (n % 2 ^ 52) (omega arith) h)

  pub small_is : field < 874 → eqb (n % 2 ^ 63) 0 ≡ told
  unfolding of_bits
  small_is h =
      let e : field * 2 ^ 52 + n % 2 ^ 52 ≡ n % 2 ^ 63 = omega arith in
      sym (small (leb (2 ^ 63) n) field (n % 2 ^ 52) (omega arith) h ∙ ap (λ (x : ℕ). eqb x 0) e)

  module _ (lo : 874 ≤ field) (j : ℕ) (e : j ≡ 29 + (897 - field)) where
    unit_is : 1 * 2 ^ j % 2 ^ 64 ≡ 2 ^ j
    unit_is = shl_exact 1 j 64 (lit< tt) (omega arith) ∙ one-mul (2 ^ j)

    pub unit_some : 0 < 1 * 2 ^ j % 2 ^ 64
    unit_some = omega (arith, unit_is, pow_pos j)

    low_digits : n % 2 ^ 52 % 2 ^ j ≡ n % 2 ^ j
    low_digits = let a : 52 - j + j ≡ 52 = omega arith in ap (λ (x : ℕ). n % 2 ^ x % 2 ^ j) (sym a) ∙ mod-mod-pow n (52 - j) j

    pub between_is : field ≤ 1150 → eqb (n % (1 * 2 ^ j % 2 ^ 64)) 0 ≡ told
    unfolding of_bits
    between_is hi = rw (unit_is, ← low_digits, e) (sym (between (leb (2 ^ 63) n) field (n % 2 ^ 52) (omega arith) lo hi))

pub ruleset single_bits = (large_is, small_is, unit_some, between_is, arith)

-- for whoever has a float 64 and hands on its bits
pub fits_by_bits : (x : Float) → T (fits binary64 x) → (finite binary64 (to_bits binary64 x) && fits binary32 (of_bits binary64 (to_bits binary64 x))) ≡ (is_fin x && fits binary32 x)
fits_by_bits x h = rw (← (bits_fin binary64 (to_bits binary64 x)), of_bits-to_bits binary64 x h)
