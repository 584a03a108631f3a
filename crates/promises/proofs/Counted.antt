-- What stands for a value in a real field, in prio or in geoLocation is worth the same: a float of exactly a whole number is the real that the number is worth, since a
-- float 64 has one float of a value. Assumes nothing.
use mathlib.Core.Path.{◌≡◌, refl, sym, ap, ◌∙◌}
use mathlib.Core.{Bool.Bool, Bool.true, List.List, Option.Option, Option.some}
use Prim.Native.Nat.{ℕ, suc, ◌^◌}
use lib.{Dec.T, Dec.le→leb, IntN.ℤ, IntN.pos, IntN.negsuc, IntN.nat_abs}
use lib.Ieee.{Float, Format, binary32, binary64, of_bits, of_int, fits, Exact.HasValue}
use Rattle.octets.proofs.Ranges.{is_true}
use Rattle.element.specs.{Meaning.Element, Meaning.Elements, Meaning.Element.whole}
use Rattle.number.specs.Number.{number_of, finite, real_by}
use Rattle.number.proofs.Finite.{is_fin, bits_fin, bits_fit, valued_fin}
use Rattle.field.specs.Kind.{Kind, Value}
use Rattle.field.specs.Judge.{when, on_some, in_range, whole_real, real_in, reals_in, three_of, text_of, judge}
use Rattle.field.proofs.Reals.{is_negative, only_value}
use Rattle.promises.specs.Steady.{Exactly, SameReal, SameReals, StandsFor}

-- a float that has a value is read as itself
valued_real : (f : Format) (n : ℕ) (s : Bool) (a : ℕ) → HasValue (of_bits f n) s a 1 → real_in (real_by f n) ≡ some (of_bits f n)
valued_real f n s a v =
    let t : finite f n ≡ true = sym (bits_fin f n) ∙ sym (is_true (is_fin (of_bits f n)) (valued_fin (of_bits f n) s a 1 v)) in
    simp t

-- a whole number within 2^53 is worth its real
within_real : (z : ℤ) → T (in_range (2 ^ 53) (2 ^ 53) z) → whole_real z ≡ some (of_int binary64 z)
within_real z h = simp (sym (is_true (in_range (2 ^ 53) (2 ^ 53) z) h))

exactly_real : (z : ℤ) (f : Format) (n : ℕ) → Exactly z (of_bits f n) → whole_real z ≡ real_in (real_by f n)
exactly_real z f n e = go z e
  where
    meet : (z : ℤ) → T (in_range (2 ^ 53) (2 ^ 53) z) → HasValue (of_bits f n) (is_negative z) (nat_abs z) 1 → whole_real z ≡ real_in (real_by f n)
    meet z h v =
        within_real z h ∙ ap some (sym (only_value z h (of_bits f n) (bits_fit f n) v)) ∙ sym (valued_real f n (is_negative z) (nat_abs z) v)

    go : (z : ℤ) → Exactly z (of_bits f n) → whole_real z ≡ real_in (real_by f n)
    go (pos m) e = meet (pos m) (le→leb m (2 ^ 53) e.0) e.1
    go (negsuc k) e = meet (negsuc k) (le→leb (suc k) (2 ^ 53) e.0) e.1

whole_is : (z : ℤ) → real_in (number_of (whole z)) ≡ whole_real z
whole_is (pos n) = refl
whole_is (negsuc k) = refl

same_real : {e d : Element} → SameReal e d → real_in (number_of e) ≡ real_in (number_of d)
same_real SameReal.same = refl
same_real (SameReal.float32 {z = z} {n = n} e) = whole_is z ∙ exactly_real z binary32 n e
same_real (SameReal.float64 {z = z} {n = n} e) = whole_is z ∙ exactly_real z binary64 n e

same_reals : {es ds : Elements} → SameReals es ds → reals_in es ≡ reals_in ds
unfolding reals_in
same_reals SameReals.no_more = refl
same_reals (SameReals.more s ss) = rw (same_real s, same_reals ss)

pub stands_judged : {κ : Kind} {e d : Element} → StandsFor κ e d → judge κ e ≡ judge κ d
unfolding judge
stands_judged (StandsFor.real s) = ap (λ (o : Option Float). on_some o (λ x. some (Value.figure x))) (same_real s)
stands_judged (StandsFor.prio s) = ap (λ (o : Option Float). on_some o (λ x. when (fits binary32 x) (Value.figure x))) (same_real s)
stands_judged (StandsFor.position ss) = ap (λ (o : Option (List Float)). on_some o three_of) (same_reals ss)

-- none of these is a text
real_no_text : {e d : Element} → SameReal e d → text_of e ≡ text_of d
real_no_text SameReal.same = refl
real_no_text (SameReal.float32 e) = refl
real_no_text (SameReal.float64 e) = refl

pub stands_text : {κ : Kind} {e d : Element} → StandsFor κ e d → text_of e ≡ text_of d
stands_text (StandsFor.real s) = real_no_text s
stands_text (StandsFor.prio s) = real_no_text s
stands_text (StandsFor.position ss) = refl
