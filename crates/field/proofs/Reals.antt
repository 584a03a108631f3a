-- Reals under a kind: each law in the shape of a need of the code. A whole number within 2^53 has the value of the float that it is worth, and no other float of
-- the format has it. Assumes nothing.
use mathlib.Core.Path.{◌≡◌, refl, sym, ap, subst, ◌∙◌}
use mathlib.Core.{Bool.Bool, Bool.true, Bool.false, Bool.not, List.List, Option.Option, Option.some, Option.none}
use Prim.Native.Nat.{ℕ, suc, ◌+◌, ◌/◌, ◌%◌, ◌^◌, ◌≤◌, ◌<◌}
use native.Mathlib.Omega.{arith}
use lib.{Dec.T, Dec.leb→le, Dec.le→leb, ListN.length, ListN.get_or, Signed.lt_z, Signed.mag}
use lib.IntN.{ℤ, pos, negsuc, nat_abs}
use lib.Ieee.{Float, binary64, fits, nan_bits, of_bits, of_int, top, hid, ones}
use lib.Ieee.{Bits.nan_bits_is, Exact.HasValue, Fits.of_int-fits, Back.round_whole, Back.whole_unique}
use borrow.Author.Tests.{le-leb, lt-leb}
use Rattle.element.specs.Code.At.{leaf_at}
use Rattle.number.specs.declared.Number.{Number, TheVariants.Signed, TheVariants.Unsigned, TheVariants.Real}
use Rattle.number.specs.{Number.number_of, Number.real_by, Number.Found, Code.Body.bits_at}
use Rattle.number.proofs.Bodies.{real_none, real_is, no_nan}
use Rattle.number.proofs.{Reading.double_is, Finite.bits_fit, Finite.valued_fin, Finite.fin_no_nan}
use Rattle.std.specs.Prelude.{Option as Answer, Some, None}
use Rattle.field.specs.{Kind.Kind, Judge.in_range, Judge.real_in, Judge.judge}
use Rattle.field.specs.{Cell.figure_of, Code.Read.tell, Code.Read.read_at, Code.Read.real_value_in}
use Rattle.field.proofs.Numbers.{number_there, found, back, turn, below_turned, above_plain}

-- a whole number's sign and size
abbrev pub is_negative : ℤ → Bool
is_negative (pos n) = false
is_negative (negsuc k) = true

-- The conversion is exact: the float that a whole number within 2^53 is worth has its sign and is that number, and it is the only float 64 that does
pub whole_value : (z : ℤ) → T (in_range (2 ^ 53) (2 ^ 53) z) → HasValue (of_int binary64 z) (is_negative z) (nat_abs z) 1
unfolding of_int
whole_value (pos n) h = round_whole binary64 false n (leb→le n (2 ^ 53) h)
whole_value (negsuc k) h = round_whole binary64 true (suc k) (leb→le (suc k) (2 ^ 53) h)

pub only_value : (z : ℤ) → T (in_range (2 ^ 53) (2 ^ 53) z) → (x : Float) → T (fits binary64 x) → HasValue x (is_negative z) (nat_abs z) 1 → x ≡ of_int binary64 z
only_value z h x f v = whole_unique binary64 x (of_int binary64 z) (is_negative z) (nat_abs z) f (of_int-fits binary64 z) v (whole_value z h)

-- the bits of a whole number's real
pub whole_no_nan : (s : Bool) (n b : ℕ) → (n ≤ 2 ^ 53 → HasValue (of_bits binary64 b) s n 1) → n ≤ 2 ^ 53 → T (not (nan_bits binary64 b))
whole_no_nan s n b e h = rw nan_bits_is (fin_no_nan (of_bits binary64 b) (valued_fin (of_bits binary64 b) s n 1 (e h)))

bits_of : (z : ℤ) (b : ℕ) → T (in_range (2 ^ 53) (2 ^ 53) z) → HasValue (of_bits binary64 b) (is_negative z) (nat_abs z) 1 → of_bits binary64 b ≡ of_int binary64 z
bits_of z b h v = only_value z h (of_bits binary64 b) (bits_fit binary64 b) v

module _ (n : ℕ) where
  pub upto_real : (b : ℕ) → (n ≤ 2 ^ 53 → HasValue (of_bits binary64 b) false n 1) → n ≤ 2 ^ 53 → Some (of_bits binary64 b) ≡ tell figure_of (real_value_in (Some (Unsigned n)))
  unfolding tell
  upto_real b e h = ap (λ (x : Float). Some x) (bits_of (pos n) b (le→leb n (2 ^ 53) h) (e h)) ∙ simp (le-leb n (2 ^ 53) h)

  pub upto_no_real : 2 ^ 53 < n → None ≡ tell figure_of (real_value_in (Some (Unsigned n)))
  unfolding tell
  upto_no_real h = simp (lt-leb n (2 ^ 53) h)

module _ (k : ℕ) where
  pub below_real : (b : ℕ) → (k + 1 ≤ 2 ^ 53 → HasValue (of_bits binary64 b) true (k + 1) 1) → k < 2 ^ 53 → Some (of_bits binary64 b) ≡ tell figure_of (real_value_in (Some (Signed (negsuc k))))
  unfolding tell
  below_real b e h =
      let s : k + 1 ≡ suc k = omega arith in
      ap (λ (x : Float). Some x) (bits_of (negsuc k) b (le→leb (suc k) (2 ^ 53) h) (subst (λ (n : ℕ). HasValue (of_bits binary64 b) true n 1) s (e (omega arith)))) ∙ simp (le-leb (suc k) (2 ^ 53) h)

  pub below_no_real : 2 ^ 53 ≤ k → None ≡ tell figure_of (real_value_in (Some (Signed (negsuc k))))
  unfolding tell
  below_no_real h = simp (lt-leb (suc k) (2 ^ 53) (omega arith))

pub ruleset counted = (whole_no_nan, upto_real, upto_no_real, below_real, below_no_real, arith)

-- a real, by the number's variant
module _ (x : Number) where
  by_number : (y : Number) → x ≡ y → tell figure_of (real_value_in (Some y)) ≡ tell figure_of (real_value_in (Some x))
  by_number y e = sym (ap (λ (n : Number). tell figure_of (real_value_in (Some n))) e)

  module _ (r : Answer Float) (z : ℤ) (m : mag z < 2 ^ 63) (e : x ≡ Signed z) where
    pub figure_below : lt_z (back z) (pos 0) ≡ true → r ≡ tell figure_of (real_value_in (Some (Signed (negsuc (turn z))))) → r ≡ tell figure_of (real_value_in (Some x))
    figure_below t q = q ∙ by_number (Signed (negsuc (turn z))) (e ∙ ap Signed (below_turned z m t))

    pub figure_above : lt_z (back z) (pos 0) ≡ false → r ≡ tell figure_of (real_value_in (Some (Unsigned (nat_abs (back z))))) → r ≡ tell figure_of (real_value_in (Some x))
    figure_above t q = q ∙ by_number (Signed (pos (nat_abs (back z)))) (e ∙ ap Signed (above_plain z m t))

  pub figure_unsigned : (r : Answer Float) (n : ℕ) → x ≡ Unsigned n → r ≡ tell figure_of (real_value_in (Some (Unsigned n))) → r ≡ tell figure_of (real_value_in (Some x))
  figure_unsigned r n e q = q ∙ by_number (Unsigned n) e

  pub figure_is : (f : Float) → x ≡ Real f → Some f ≡ tell figure_of (real_value_in (Some x))
  unfolding tell
  figure_is f e = by_number (Real f) e

pub ruleset figures = (figure_below, figure_above, figure_unsigned, figure_is)

-- a float 64
module _ (n : ℕ) where
  by_real : (x : Found) → x ≡ real_by binary64 n → tell figure_of (real_value_in x) ≡ tell figure_of (real_value_in (real_by binary64 n))
  by_real x e = ap (λ (y : Found). tell figure_of (real_value_in y)) e

  pub infinite : n % top binary64 / hid binary64 ≡ ones binary64 → None ≡ tell figure_of (real_value_in (real_by binary64 n))
  unfolding tell
  infinite e = by_real None (real_none binary64 n e)

  pub finite_figure : (n % top binary64 / hid binary64 ≡ ones binary64 → ⊥) → Some (of_bits binary64 n) ≡ tell figure_of (real_value_in (real_by binary64 n))
  unfolding tell
  finite_figure e = by_real (Some (Real (of_bits binary64 n))) (real_is binary64 n e)

pub ruleset doubles = (infinite, finite_figure, no_nan)

-- the element at a place, by the number there
module _ (s : List ℕ) (at : ℕ) where
  real_at_is : (x : Found) → x ≡ number_of (leaf_at s at) → tell figure_of (real_value_in x) ≡ read_at figure_of Kind.reals s at
  unfolding read_at judge
  real_at_is x e = ap (λ (y : Found). tell figure_of (real_value_in y)) (found s at x e)

  module _ (x : Found) (e : x ≡ number_of (leaf_at s at)) where
    pub real_some : (n : Number) (r : Answer Float) → x ≡ Some n → r ≡ tell figure_of (real_value_in (Some n)) → r ≡ read_at figure_of Kind.reals s at
    real_some n r y q = q ∙ real_at_is (Some n) (sym y ∙ e)

    pub real_no : x ≡ None → None ≡ read_at figure_of Kind.reals s at
    unfolding tell
    real_no y = real_at_is None (sym y ∙ e)

  module _ (o : Answer ℕ) (there : at < length s) (b : get_or s at 0 ≡ 0xCB) (f : o ≡ bits_at s (at + 1) 8) where
    pub real_wide : (n : ℕ) (r : Answer Float) → o ≡ Some n → r ≡ tell figure_of (real_value_in (real_by binary64 n)) → r ≡ read_at figure_of Kind.reals s at
    real_wide n r y q = q ∙ real_at_is (real_by binary64 n) (double_is s at (real_by binary64 n) o there b f (sym (rw y)))

    pub real_cut : o ≡ None → None ≡ read_at figure_of Kind.reals s at
    unfolding tell
    real_cut y = real_at_is None (double_is s at None o there b f (sym (rw y)))

pub ruleset reals = (real_some, real_no, real_wide, real_cut, arith)

-- a real that is read is the number's there
module _ (s : List ℕ) (at : ℕ) (a : Answer Float) (e : a ≡ read_at figure_of Kind.reals s at) where
  number_read : a ≡ tell figure_of (real_value_in (number_of (leaf_at s at)))
  unfolding read_at judge
  number_read = e ∙ ap (λ (n : Found). tell figure_of (real_value_in n)) (number_there s at)

  pub read_some : (x : Float) → a ≡ Some x → real_in (number_of (leaf_at s at)) ≡ some x
  unfolding tell
  read_some x g = go (real_in (number_of (leaf_at s at))) refl
    where
      go : (o : Option Float) → real_in (number_of (leaf_at s at)) ≡ o → real_in (number_of (leaf_at s at)) ≡ some x
      go none h = absurd (let z : ◌≡◌ {A = ℕ} 0 1 = cc (g, rw h at number_read) in omega arith)
      go (some y) h = let z : y ≡ x = cc (g, rw h at number_read) in h ∙ ap some z

  pub read_none : a ≡ None → real_in (number_of (leaf_at s at)) ≡ none
  unfolding tell
  read_none g = go (real_in (number_of (leaf_at s at))) refl
    where
      go : (o : Option Float) → real_in (number_of (leaf_at s at)) ≡ o → real_in (number_of (leaf_at s at)) ≡ none
      go none h = h
      go (some x) h = absurd (let z : ◌≡◌ {A = ℕ} 0 1 = cc (g, rw h at number_read) in omega arith)
