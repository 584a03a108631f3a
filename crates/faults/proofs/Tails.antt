-- A profile's bytes behind the first n are zeros: of sixteen bytes as two numbers, nothing is left once the first n are shifted out.
-- Each law once over the width; the last in the shape of a need of the code. Assumes nothing.
use mathlib.Core.Path.{◌≡◌, refl, sym, ◌∙◌}
use mathlib.Core.Bool.{Bool, true, false, ◌&&◌, and-true, and_assoc, and_comm}
use mathlib.Core.List.{List, [], ◌∷◌, ◌++◌}
use Prim.Native.Nat.{ℕ, zero, suc, ◌+◌, ◌-◌, ◌*◌, ◌/◌, ◌%◌, ◌^◌, ◌≤◌, ◌<◌}
use native.Mathlib.Nat.{zero-add, suc-add, suc-mul, zero-mul, pow-succ', mod-one, mod-eq_of_lt, mul-mod_left, mul-div_cancel}
use native.Mathlib.Omega.{arith}
use lib.{Arith.mod-mul, Dec.eqb, Dec.leb, Dec.lit<, Pow.pow-add, Seq.length-take-le, Seq.drop-append-le, Seq.drop-append-add}
use lib.ListN.{length, take, drop, drop_of_length-le}
use borrow.Author.Tests.{ne_eqb, le-leb, leb-true, leb-false}
use Rattle.octets.specs.Bytes.{big_bytes}
use Rattle.octets.proofs.{Digits.length_big, Widths.power_pos, Widths.bits_bytes}
use Rattle.field.specs.Kind.{Kind, Value, profile_text}
use Rattle.saying.specs.{Says.are_nulls, Says.string_if, Fits.within, Fits.field_fits}
use Rattle.record.specs.declared.Sixteen.{Sixteen}
use Rattle.record.specs.Says.{sixteen_bytes}
use Rattle.faults.specs.Code.Tests.{tail_fits}
use Rattle.faults.proofs.Parts.{length_sixteen}

-- what follows from the first of two tests need not be tested
implied : (a z w : Bool) → (a ≡ true → w ≡ true) → ((a && z) && w) ≡ (a && z)
implied true z w h = rw (h refl) (and-true z)
implied false z w h = refl

-- a digit and what is behind it
both_zero : (b w r : ℕ) → 0 < w → (eqb b 0 && eqb r 0) ≡ eqb (b * w + r) 0
both_zero zero w r h = rw (zero-mul, zero-add)
both_zero (suc b) w r h =
    rw (ne_eqb (suc b) 0 (λ (e : suc b ≡ 0). omega arith), ne_eqb (suc b * w + r) 0 (λ (e : suc b * w + r ≡ 0). omega (arith, suc-mul b w)))

digits_zero : (k x : ℕ) → are_nulls k (big_bytes k x) ≡ eqb (x % 256 ^ k) 0
unfolding big_bytes
digits_zero zero x = rw mod-one
digits_zero (suc k) x =
    rw (digits_zero k x, pow-succ' 256 k, mod-mul x {m = 256} {c = 256 ^ k} (lit< tt) (power_pos k))
    (both_zero (x / 256 ^ k % 256) (256 ^ k) (x % 256 ^ k) (power_pos k))

behind_big : (j k x : ℕ) → drop j (big_bytes (j + k) x) ≡ big_bytes k x
unfolding big_bytes
behind_big zero k x = rw zero-add
behind_big (suc j) k x = rw suc-add (behind_big j k x)

drop_big : (n j x : ℕ) → j ≤ n → drop j (big_bytes n x) ≡ big_bytes (n - j) x
drop_big n j x h = let e : j + (n - j) ≡ n = omega arith in rw e at (behind_big j (n - j) x)

zeros_join : (a b : List ℕ) (n : ℕ) → are_nulls (length a + n) (a ++ b) ≡ (are_nulls (length a) a && are_nulls n b)
zeros_join [] b n = rw zero-add
zeros_join (x ∷ a) b n = rw (suc-add, zeros_join a b n) (sym (and_assoc (eqb x 0) (are_nulls (length a) a) (are_nulls n b)))

-- what is left of eight bytes once the first j are shifted out
shift_zero : (x j k : ℕ) → eqb (x * 256 ^ j % 256 ^ (k + j)) 0 ≡ eqb (x % 256 ^ k) 0
shift_zero x j k =
    rw (pow-add 256 k j, mod-mul (x * 256 ^ j) {m = 256 ^ k} {c = 256 ^ j} (power_pos k) (power_pos j), mul-div_cancel x (power_pos j), mul-mod_left x (256 ^ j))
    (sym (both_zero (x % 256 ^ k) (256 ^ j) 0 (power_pos j)) ∙ and-true (eqb (x % 256 ^ k) 0))

left_zero : (x j : ℕ) → j ≤ 8 → eqb (x * 2 ^ (8 * j) % 2 ^ 64) 0 ≡ are_nulls (8 - j) (drop j (big_bytes 8 x))
left_zero x j h =
    let e : 8 - j + j ≡ 8 = omega arith in
    rw (bits_bytes j, drop_big 8 j x h, digits_zero (8 - j) x) (rw e at (shift_zero x j (8 - j)))

-- sixteen bytes, behind the first n
module _ (x : Sixteen) (n : ℕ) where
  abbrev high : List ℕ
  high = big_bytes 8 x.high

  abbrev low : List ℕ
  low = big_bytes 8 x.low

  pub tail_high : x.low < 0x10000000000000000 → n < 8 → (eqb x.low 0 && eqb (x.high * 2 ^ (8 * n) % 2 ^ 64) 0) ≡ tail_fits x n
  unfolding sixteen_bytes tail_fits
  tail_high l h =
      let e : 16 - n ≡ 8 - n + 8 = omega arith in
      let long : length (drop n high) ≡ 8 - n = rw (drop_big 8 n x.high (omega arith)) (length_big (8 - n) x.high) in
      let behind : are_nulls 8 low ≡ eqb x.low 0 = rw (digits_zero 8 x.low, mod-eq_of_lt l) refl in
      rw (le-leb n 16 (omega arith), e, drop-append-le n high low (rw length_big (omega arith)), left_zero x.high n (omega arith))
      (and_comm (eqb x.low 0) (are_nulls (8 - n) (drop n high)) ∙ rw (← behind) (sym (rw long at (zeros_join (drop n high) low 8))))

  pub tail_low : 8 ≤ n → n < 16 → eqb (x.low * 2 ^ (8 * n - 64) % 2 ^ 64) 0 ≡ tail_fits x n
  unfolding sixteen_bytes tail_fits
  tail_low g h =
      let bits : 8 * n - 64 ≡ 8 * (n - 8) = omega arith in
      let rest : 16 - n ≡ 8 - (n - 8) = omega arith in
      let e : 8 + (n - 8) ≡ n = omega arith in
      let behind : drop n (high ++ low) ≡ drop (n - 8) low = rw (length_big, e) at (drop-append-add high low (n - 8)) in
      rw (le-leb n 16 (omega arith), bits, rest, behind) (left_zero x.low (n - 8) (omega arith))

  full_or_more : 16 ≤ n → (t : Bool) → leb n 16 ≡ t → eqb n 16 ≡ tail_fits x n
  unfolding tail_fits
  full_or_more h true e =
      let all : n ≡ 16 = omega (arith, leb-true n 16 e) in
      rw (all, drop_of_length-le (sixteen_bytes x) {i = 16} (rw length_sixteen (omega arith)))
  full_or_more h false e =
      let more : 16 < n = leb-false n 16 e in
      rw (e, ne_eqb n 16 (λ (f : n ≡ 16). omega arith))

  pub tail_full : 16 ≤ n → eqb n 16 ≡ tail_fits x n
  tail_full h = full_or_more h (leb n 16) refl

pub ruleset tails = (tail_high, tail_low, tail_full)

-- a text of so many bytes is in its range
named : (x : Sixteen) (n : ℕ) → leb (suc n) 16 ≡ true → within (Kind.texts 1 16) (Value.string (take (suc n) (sixteen_bytes x))) ≡ true
unfolding within
named x n e = rw (length-take-le (suc n) (sixteen_bytes x) (rw length_sixteen (leb-true (suc n) 16 e)), e, le-leb 1 (suc n) (omega arith))

pub profile_in : (k : List ℕ) (x : Sixteen) (n : ℕ) → field_fits (record { key = k; must = false; kind = profile_text }) (string_if 16 n (sixteen_bytes x)) ≡ tail_fits x n
unfolding tail_fits
profile_in k x zero = rw length_sixteen (and-true _)
profile_in k x (suc n) =
    rw (ne_eqb (suc n) 0 (λ (e : suc n ≡ 0). omega arith), length_sixteen x)
    (implied (leb (suc n) 16) (are_nulls (16 - suc n) (drop (suc n) (sixteen_bytes x))) _ (named x n))
