-- The heard set: the machine's count of ones is the number of stations, and the machine's or is the set with a station added. By induction on the number of
-- bits looked at: the bits below n are the remainder by 2 ^ n, and bit n stands above it. Assumes nothing.
use Prim.Native.Nat.{ℕ, zero, suc, ◌+◌, ◌*◌, ◌/◌, ◌%◌, ◌^◌, ◌<◌}
use mathlib.Core.Path.{◌≡◌, refl, sym, ap, ◌∙◌}
use mathlib.Core.Bool.{Bool, true, false, cond}
use mathlib.Core.List.{List, [], ◌∷◌, ◌++◌}
use native.Mathlib.Nat.{mod-one, mod-lt, mod-eq_of_lt, one-mul, add-zero, add_comm}
use native.Mathlib.Numerals.{one-add}
use native.Mathlib.Omega.{arith}
use lib.{Dec.eqb, Dec.lit<, ListN.length, ListN.length-append, Count.ones, Count.ones_cat}
use lib.Bits.{bit_and, bit_or, or_add_and, and_high, or_lt}
use lib.Pow.{pow_pos, pow-lt, mod-pow-add, high_ones, shl_exact}
use Rattle.meters.specs.Stations.{numbers_to, passing, hears, stations, hearers, alone, with_hearer}

pub passing_append : (t : ℕ → Bool) (xs ys : List ℕ) → passing t (xs ++ ys) ≡ passing t xs ++ passing t ys
unfolding passing
passing_append t [] ys = refl
passing_append t (x ∷ xs) ys = by (t x) (passing_append t xs ys)
  where
    by : (b : Bool) → passing t (xs ++ ys) ≡ passing t xs ++ passing t ys
        → cond b (x ∷ passing t (xs ++ ys)) (passing t (xs ++ ys)) ≡ cond b (x ∷ passing t xs) (passing t xs) ++ passing t ys
    by true e = ap (λ (l : List ℕ). x ∷ l) e
    by false e = e

-- one bit, as a list and as a number
bit : (d n : ℕ) → d < 2 → length (cond (eqb d 1) (n ∷ []) []) ≡ ones d
unfolding ones
bit zero n h = refl
bit (suc zero) n h = refl
bit (suc (suc d)) n h = absurd (omega arith)

low_bits : (n h : ℕ) → h % 2 ^ suc n ≡ (h / 2 ^ n % 2) * 2 ^ n + h % 2 ^ n
low_bits n h = ap (λ (k : ℕ). h % 2 ^ k) (sym (one-add n)) ∙ mod-pow-add h 1 n

-- the stations below n are the ones of the n lowest bits
pub heard_below : (n h : ℕ) → length (passing (hears h) (numbers_to n)) ≡ ones (h % 2 ^ n)
unfolding numbers_to passing hears ones
heard_below zero h = sym (ap ones (mod-one h))
heard_below (suc n) h =
    ap length (passing_append (hears h) (numbers_to n) (n ∷ []))
    ∙ length-append (passing (hears h) (numbers_to n)) (passing (hears h) (n ∷ []))
    ∙ ap (λ (k : ℕ). k + length (passing (hears h) (n ∷ []))) (heard_below n h)
    ∙ ap (λ (k : ℕ). ones (h % 2 ^ n) + k) (bit (h / 2 ^ n % 2) n (mod-lt (h / 2 ^ n) (lit< tt)))
    ∙ add_comm (ones (h % 2 ^ n)) (ones (h / 2 ^ n % 2))
    ∙ sym (ones_cat n (h / 2 ^ n % 2) (h % 2 ^ n) (mod-lt h (pow_pos n)))
    ∙ ap ones (sym (low_bits n h))

pub ones_hearers : (h : ℕ) → h < 2 ^ 64 → ones h ≡ hearers h
unfolding hearers stations
ones_hearers h l = sym (heard_below 64 h ∙ ap ones (mod-eq_of_lt l))

-- ---- the machine's words

pub shifted : (s : ℕ) → s < 64 → (1 * 2 ^ s) % 2 ^ 64 ≡ alone s
shifted s h = shl_exact 1 s 64 (lit< tt) (omega arith) ∙ one-mul (2 ^ s)

pub alone_lt : (s : ℕ) → s < 64 → alone s < 2 ^ 64
alone_lt s h = pow-lt h

pub alone_hearers : (s : ℕ) → s < 64 → hearers (alone s) ≡ 1
unfolding ones
alone_hearers s h = sym (ones_hearers (2 ^ s) (pow-lt h)) ∙ ap ones (sym (one-mul (2 ^ s)) ∙ sym (add-zero (1 * 2 ^ s))) ∙ ones_cat s 1 0 (pow_pos s)

and_bit : (h s : ℕ) → bit_and h (2 ^ s) ≡ (h / 2 ^ s % 2) * 2 ^ s
and_bit h s = ap (bit_and h) (sym (one-mul (2 ^ s)) ∙ sym (high_ones 1 s)) ∙ and_high h 1 s

or_bit : (d h p o : ℕ) → d < 2 → o + d * p ≡ h + p → o ≡ cond (eqb d 1) h (h + p)
or_bit zero h p o l e = omega arith
or_bit (suc zero) h p o l e = omega arith
or_bit (suc (suc d)) h p o l e = absurd (omega arith)

pub or_joined : (h s : ℕ) → bit_or h (2 ^ s) ≡ with_hearer h s
unfolding with_hearer hears
or_joined h s = or_bit (h / 2 ^ s % 2) h (2 ^ s) (bit_or h (2 ^ s)) (mod-lt (h / 2 ^ s) (lit< tt)) (ap (λ (k : ℕ). bit_or h (2 ^ s) + k) (sym (and_bit h s)) ∙ or_add_and h (2 ^ s))

pub joined_lt : (h s : ℕ) → h < 2 ^ 64 → s < 64 → with_hearer h s < 2 ^ 64
joined_lt h s l g = rw (← or_joined h s) (or_lt 64 h (2 ^ s) l (pow-lt g))
