-- A signed number and its bits, once over the width, each law in the shape of a need of the code: from 0 on the bits are the number, and below 0
-- they are 2 ^ bits - 1 less k, where the number is -(k + 1). Assumes nothing.
use mathlib.Core.Path.{◌≡◌, refl, sym, ap, ◌∙◌}
use mathlib.Core.Bool.{true, false}
use Prim.Native.Nat.{ℕ, zero, suc, ◌-◌, ◌*◌, ◌^◌, ◌≤◌, ◌<◌}
use native.Mathlib.Omega.{arith}
use lib.{Dec.T, Dec.lit<, Pow.pow_pos, Signed.lt_z, Signed.mag, Signed.non_neg}
use lib.IntN.{ℤ, pos, negsuc, nat_abs, ◌-ℤ◌}
use mir.Syntax.{Width, w8, w16, w32, w64, w128}
use mir.Val.{Fits, SFits, bits, hbits, to_z, of_z}
use mir.ValLaws.{to_z_pos, to_z-of_z}
use borrow.Author.Tests.{le-ltb, lt-ltb, ltb-true}
use Rattle.octets.proofs.{Ranges.true_false, Widths.half_twice}
use Rattle.octets.specs.Signed.{bits_of, signed_of}

-- the highest bit, and all bits
half_is : (w : Width) → 2 ^ (bits w - 1) ≡ 2 ^ hbits w
half_is w8 = refl
half_is w16 = refl
half_is w32 = refl
half_is w64 = refl
half_is w128 = refl

bits_some : (w : Width) → 0 < bits w
bits_some w8 = lit< tt
bits_some w16 = lit< tt
bits_some w32 = lit< tt
bits_some w64 = lit< tt
bits_some w128 = lit< tt

twice : (w : Width) → 2 ^ bits w ≡ 2 ^ hbits w * 2
twice w = half_twice (bits w) (bits_some w) ∙ ap (λ (n : ℕ). n * 2) (half_is w)

-- -1 - k, and -1 - z below 0
minus_one : (k : ℕ) → negsuc 0 -ℤ pos k ≡ negsuc k
minus_one zero = refl
minus_one (suc k) = ap negsuc (omega arith)

turned : (k : ℕ) → negsuc 0 -ℤ negsuc k ≡ pos k
turned k =
    let e : suc k - 1 ≡ k = omega arith in
    simp (le-ltb (suc k) 1 (omega arith)) (ap pos e)

-- to bits
abbrev pub back : Width → ℤ → ℤ
back w z = to_z w (of_z w z)

abbrev pub turn : Width → ℤ → ℕ
turn w z = nat_abs (back w (negsuc 0 -ℤ back w z))

module _ (w : Width) (z : ℤ) (m : SFits w z) where
  same : back w z ≡ z
  same = to_z-of_z w z m

  module _ (t : lt_z (back w z) (pos 0) ≡ true) where
    negative : (k : ℕ) × (z ≡ negsuc k) × (k < 2 ^ hbits w)
    negative = go z m.sfits (rw same at t)
      where
        go : (z : ℤ) → mag z < 2 ^ hbits w → lt_z z (pos 0) ≡ true → (k : ℕ) × (z ≡ negsuc k) × (k < 2 ^ hbits w)
        go (pos n) m t = absurd (omega (arith, ltb-true n 0 t))
        go (negsuc k) m t = (k, refl, m)

    minus : negsuc 0 -ℤ back w z ≡ pos negative.0
    minus = ap (λ (y : ℤ). negsuc 0 -ℤ y) (same ∙ negative.1) ∙ turned negative.0

    pub turn_fits : SFits w (negsuc 0 -ℤ back w z)
    turn_fits = rw minus (record { sfits = negative.2 })

    again : back w (negsuc 0 -ℤ back w z) ≡ pos negative.0
    again = to_z-of_z w (negsuc 0 -ℤ back w z) turn_fits ∙ minus

    pub turn_sign : T (non_neg (back w (negsuc 0 -ℤ back w z)))
    turn_sign = rw again tt

    pub turn_below : turn w z < 2 ^ hbits w
    turn_below = rw again negative.2

    pub turn_width : 2 ^ hbits w ≤ 2 ^ 63 → Fits w64 (turn w z)
    turn_width h = record { fits = omega (arith, turn_below) }

    pub turn_most : turn w z ≤ 2 ^ bits w - 1
    turn_most = omega (arith, turn_below, twice w)

    pub turn_whole : negsuc (turn w z) ≡ z
    turn_whole = ap negsuc (ap nat_abs again) ∙ sym negative.1

    pub turn_is : 2 ^ bits w - 1 - turn w z ≡ bits_of (bits w) z
    turn_is =
        let e : 2 ^ bits w - 1 - turn w z ≡ 2 ^ bits w - suc (turn w z) = omega arith in
        e ∙ ap (bits_of (bits w)) turn_whole

  module _ (t : lt_z (back w z) (pos 0) ≡ false) where
    positive : (k : ℕ) × (z ≡ pos k) × (k < 2 ^ hbits w)
    positive = go z m.sfits (rw same at t)
      where
        go : (z : ℤ) → mag z < 2 ^ hbits w → lt_z z (pos 0) ≡ false → (k : ℕ) × (z ≡ pos k) × (k < 2 ^ hbits w)
        go (pos n) m t = (n, refl, m)
        go (negsuc k) m t = true_false t

    plain : back w z ≡ pos positive.0
    plain = same ∙ positive.1

    pub plain_sign : T (non_neg (back w z))
    plain_sign = rw plain tt

    pub plain_width : 2 ^ hbits w ≤ 2 ^ 63 → Fits w64 (nat_abs (back w z))
    plain_width h = rw plain (record { fits = let l : positive.0 < 2 ^ hbits w = positive.2 in omega arith })

    pub plain_whole : pos (nat_abs (back w z)) ≡ z
    plain_whole = ap pos (ap nat_abs plain) ∙ sym positive.1

    pub plain_is : nat_abs (back w z) ≡ bits_of (bits w) z
    plain_is = ap (bits_of (bits w)) plain_whole

-- from bits
pub below_zero : (w : Width) (k : ℕ) → k < 2 ^ hbits w → negsuc 0 -ℤ to_z w k ≡ negsuc k
below_zero w k h = rw (to_z_pos w k h) (minus_one k)

module _ (w : Width) (n : ℕ) where
  pub signed_low : n < 2 ^ hbits w → to_z w n ≡ signed_of (bits w) n
  signed_low h = to_z_pos w n h ∙ sym (rw (half_is w, lt-ltb n (2 ^ hbits w) h))

  module _ (h : 2 ^ hbits w ≤ n) where
    abbrev under : ℕ
    under = 2 ^ bits w - 1 - n

    small : under < 2 ^ hbits w
    small = omega (arith, twice w, pow_pos (hbits w))

    pub signed_fits : SFits w (negsuc 0 -ℤ to_z w under)
    signed_fits = rw (below_zero w under small) (record { sfits = small })

    pub signed_high : to_z w (of_z w (negsuc 0 -ℤ to_z w under)) ≡ signed_of (bits w) n
    signed_high =
        let g : under ≡ 2 ^ bits w - suc n = omega arith in
        to_z-of_z w (negsuc 0 -ℤ to_z w under) signed_fits ∙ below_zero w under small ∙ ap negsuc g ∙ sym (rw (half_is w, le-ltb n (2 ^ hbits w) h))

-- a signed value that was stored
pub held : (w : Width) (z x : ℤ) → SFits w z → z ≡ x → to_z w (of_z w z) ≡ x
held w z x f e = to_z-of_z w z f ∙ e

-- the bits of a signed value that was stored
pub held_bits : (w : Width) (z : ℤ) (n : ℕ) → SFits w z → n ≡ bits_of (bits w) (to_z w (of_z w z)) → n ≡ bits_of (bits w) z
held_bits w z n f e = e ∙ ap (bits_of (bits w)) (to_z-of_z w z f)

-- there and back
module _ (w : ℕ) (some : 0 < w) where
  pub bits_below : (z : ℤ) → mag z < 2 ^ (w - 1) → bits_of w z < 2 ^ w
  bits_below (pos n) h = omega (arith, half_twice w some)
  bits_below (negsuc k) h = omega (arith, half_twice w some)

  pub signed_again : (z : ℤ) → mag z < 2 ^ (w - 1) → signed_of w (bits_of w z) ≡ z
  signed_again (pos n) h = rw (lt-ltb n (2 ^ (w - 1)) h)
  signed_again (negsuc k) h =
      let g : 2 ^ (w - 1) ≤ 2 ^ w - suc k = omega (arith, half_twice w some) in
      let q : 2 ^ w - suc (2 ^ w - suc k) ≡ k = omega (arith, half_twice w some) in
      rw (le-ltb (2 ^ w - suc k) (2 ^ (w - 1)) g) (ap negsuc q)

module _ (w : Width) (z : ℤ) (f : SFits w z) where
  pub bits_fit : bits_of (bits w) z < 2 ^ bits w
  bits_fit = bits_below (bits w) (bits_some w) z (rw (half_is w) f.sfits)

  pub signed_back : signed_of (bits w) (bits_of (bits w) z) ≡ z
  signed_back = signed_again (bits w) (bits_some w) z (rw (half_is w) f.sfits)
