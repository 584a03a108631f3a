-- Reals compare as their bits do, without the sign's: where the exponent's field and the digits say more, the number is larger. Assumes nothing.
use mathlib.Core.{Path.◌≡◌, Path.refl, Path.sym, Path.◌∙◌}
use mathlib.Core.Bool.{Bool, true, false, not, ◌&&◌}
use Prim.Native.Nat.{ℕ, zero, suc, ◌+◌, ◌-◌, ◌/◌, ◌%◌, ◌^◌, ◌<◌}
use native.Mathlib.Nat.{mod-lt, mod-mod_of_dvd, dvd-mul_right, div-add-mod', div-lt_iff_lt-mul, mul_comm, mul-pos, mul-one, mul-le-mul_right, zero-lt-suc, zero-div, zero-mod}
use native.Mathlib.Omega.{arith}
use lib.{Dec.leb, Dec.eqb, Pow.pow_pos}
use lib.Ieee.{Float, nan, inf, fin, Format, prec, low, hid, ones, top, below, level, lt, eq, of_fields, of_bits, nan_bits, Exact.HasValue, Exact.odd_sign}
use borrow.Author.Tests.{eqb-true, eqb-false, not-false, ne_eqb, eq-eqb}
use Rattle.queue.proofs.{Magnitudes.units_at, Magnitudes.larger, Alike.Rising, Alike.same_below, Alike.same_level, Compared.Sized, Compared.lt_sized, Compared.eq_sized}

module _ (f : Format) where
  abbrev most : ℕ
  most = units_at (hid f) (ones f) 0

  weight : 0 < hid f
  weight = pow_pos (prec f - 1)

  -- the size that bits without a sign say
  abbrev Said : ℕ → ℕ → Type 0
  Said n a = units_at (hid f) (n / hid f) (n % hid f) ≡ a

  said_rises : Rising Said
  said_rises = record {
    up = λ n a m b p q k. rw (← p, ← q) (larger (hid f) (n / hid f) (n % hid f) (m / hid f) (m % hid f) (mod-lt n weight) (mod-lt m weight) (rw (div-add-mod' n (hid f), div-add-mod' m (hid f)) k));
    one = λ n a b p q. sym p ∙ q;
    least = rw (zero-div (hid f), zero-mod (hid f));
  }

  finite_sized : (v : Float) (s : Bool) (a : ℕ) → HasValue v s a (2 ^ low f) → a < most → Sized (2 ^ low f) most v s a
  finite_sized nan s a v h = v
  finite_sized (inf t) s a v h = absurd v
  finite_sized (fin t m e) s a v h = (v.0, v.1, h)

  has_value : (s : Bool) (x t : ℕ) → x < ones f → HasValue (of_fields f s x t) s (units_at (hid f) x t) (2 ^ low f)
  unfolding of_fields
  has_value s zero t h = rw (mul-one t) at (odd_sign (prec f) s t 0 (low f))
  has_value s (suc x) t h = rw (ne_eqb (suc x) (ones f) (λ e. omega arith)) (odd_sign (prec f) s (hid f + t) x (low f))

  infinite : (s : Bool) (x : ℕ) → x ≡ ones f → of_fields f s x 0 ≡ inf s
  unfolding of_fields
  infinite s zero e = absurd (omega arith)
  infinite s (suc x) e = rw (eq-eqb (suc x) (ones f) e)

  -- by its fields
  fields_sized : (s : Bool) (x t : ℕ) → x < suc (ones f) → t < hid f → eqb x (ones f) && not (eqb t 0) ≡ false → Sized (2 ^ low f) most (of_fields f s x t) s (units_at (hid f) x t)
  fields_sized s x t X H n = go (eqb x (ones f)) refl n
    where
      under : x < ones f → units_at (hid f) x t < most
      under h = larger (hid f) x t (ones f) 0 H weight (omega (arith, mul-le-mul_right (hid f) h))

      full : x ≡ ones f → t ≡ 0 → Sized (2 ^ low f) most (of_fields f s x t) s (units_at (hid f) x t)
      full e z = rw (z, infinite s x e) (refl, rw e)

      go : (b : Bool) → eqb x (ones f) ≡ b → b && not (eqb t 0) ≡ false → Sized (2 ^ low f) most (of_fields f s x t) s (units_at (hid f) x t)
      go true e n = full (eqb-true x (ones f) e) (eqb-true t 0 (not-false (eqb t 0) n))
      go false e n = let h : x < ones f = omega (arith, eqb-false x (ones f) e) in finite_sized (of_fields f s x t) s (units_at (hid f) x t) (has_value s x t h) (under h)

  field_in : (b : ℕ) → b % top f / hid f < suc (ones f)
  field_in b = (div-lt_iff_lt-mul weight).1 (rw (mul_comm (suc (ones f)) (hid f)) (mod-lt b (mul-pos weight (zero-lt-suc (ones f)))))

  same_digits : (b : ℕ) → b % top f % hid f ≡ b % hid f
  same_digits b = mod-mod_of_dvd (hid f) b (dvd-mul_right (hid f) (suc (ones f)))

  bits_sized : (b : ℕ) → nan_bits f b ≡ false → Sized (2 ^ low f) most (of_bits f b) (leb (top f) b) (units_at (hid f) (b % top f / hid f) (b % top f % hid f))
  unfolding nan_bits of_bits
  bits_sized b n = rw (same_digits b) (fields_sized (leb (top f) b) (b % top f / hid f) (b % hid f) (field_in b) (mod-lt b weight) n)

  some_most : 0 < most
  some_most = omega (arith, larger (hid f) 0 0 (ones f) 0 weight weight (omega (arith, mul-pos (let k : 0 < ones f = omega arith in k) weight)))

  module _ (a b : ℕ) (p : nan_bits f a ≡ false) (q : nan_bits f b ≡ false) where
    pub lt_bits : lt (of_bits f a) (of_bits f b) ≡ below (leb (top f) a) (a % top f) (leb (top f) b) (b % top f)
    lt_bits =
        lt_sized (2 ^ low f) most (pow_pos (low f)) some_most (of_bits f a) (of_bits f b) (leb (top f) a) (leb (top f) b) _ _ (bits_sized a p) (bits_sized b q)
        ∙ sym (same_below Said said_rises (leb (top f) a) (leb (top f) b) (a % top f) _ (b % top f) _ refl refl)

    pub eq_bits : eq (of_bits f a) (of_bits f b) ≡ level (leb (top f) a) (a % top f) (leb (top f) b) (b % top f)
    eq_bits =
        eq_sized (2 ^ low f) most (pow_pos (low f)) some_most (of_bits f a) (of_bits f b) (leb (top f) a) (leb (top f) b) _ _ (bits_sized a p) (bits_sized b q)
        ∙ sym (same_level Said said_rises (leb (top f) a) (leb (top f) b) (a % top f) _ (b % top f) _ refl refl)
