-- A float is finite exactly if its exponent's field is not all ones, what has a value is finite, and a float 64 holds the floats of both formats.
-- Assumes nothing.
use mathlib.Core.Path.{◌≡◌, refl, sym}
use mathlib.Core.Bool.{Bool, true, false, not, cond}
use Prim.Native.Nat.{ℕ, zero, suc, ◌/◌, ◌%◌}
use lib.Dec.{T, eqb}
use lib.Ieee.{Float, nan, inf, fin, Format, binary32, binary64, odd, of_fields, of_bits, is_nan, fits, top, hid, ones}
use lib.Ieee.{Bits.of_bits-fits, Fits.fits_widens, Exact.HasValue}
use Rattle.octets.proofs.Ranges.{true_false}
use Rattle.number.specs.Number.{finite}

abbrev pub is_fin : Float → Bool
is_fin nan = false
is_fin (inf s) = false
is_fin (fin s m e) = true

odd_fin : (d : ℕ) (s : Bool) (q k l : ℕ) → is_fin (odd d s q k l) ≡ true
unfolding odd
odd_fin d s zero k l = refl
odd_fin d s (suc q) k l = refl

unbounded : (b s : Bool) → is_fin (cond b (inf s) nan) ≡ false
unbounded true s = refl
unbounded false s = refl

fields_fin : (f : Format) (s : Bool) (x t : ℕ) (b : Bool) → eqb x (ones f) ≡ b → is_fin (of_fields f s x t) ≡ not b
unfolding of_fields
fields_fin binary32 s zero t true e = true_false (sym e)
fields_fin binary32 s zero t false e = odd_fin 24 s t 0 149
fields_fin binary32 s (suc x) t true e = simp e (unbounded (eqb t 0) s)
fields_fin binary32 s (suc x) t false e = simp (e, odd_fin)
fields_fin binary64 s zero t true e = true_false (sym e)
fields_fin binary64 s zero t false e = odd_fin 53 s t 0 1074
fields_fin binary64 s (suc x) t true e = simp e (unbounded (eqb t 0) s)
fields_fin binary64 s (suc x) t false e = simp (e, odd_fin)

pub bits_fin : (f : Format) (n : ℕ) → is_fin (of_bits f n) ≡ finite f n
unfolding of_bits
bits_fin f n = fields_fin f _ (n % top f / hid f) (n % hid f) (eqb (n % top f / hid f) (ones f)) refl

-- what has a value is finite, and so no NaN
pub valued_fin : (x : Float) (s : Bool) (a c : ℕ) → HasValue x s a c → T (is_fin x)
valued_fin nan s a c v = v
valued_fin (inf t) s a c v = v
valued_fin (fin t m e) s a c v = tt

pub fin_no_nan : (x : Float) → T (is_fin x) → T (not (is_nan x))
unfolding is_nan
fin_no_nan nan t = t
fin_no_nan (inf s) t = tt
fin_no_nan (fin s m e) t = tt

pub bits_fit : (f : Format) (n : ℕ) → T (fits binary64 (of_bits f n))
bits_fit binary32 n = fits_widens (of_bits binary32 n) (of_bits-fits binary32 n)
bits_fit binary64 n = of_bits-fits binary64 n
