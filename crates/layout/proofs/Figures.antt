-- A real from its bits: the code keeps NaNs from the processor's casts. Assumes nothing.
use mathlib.Core.Path.{◌≡◌, refl, sym, ◌∙◌}
use mathlib.Core.Bool.{true, not}
use Prim.Native.Nat.{ℕ, ◌%◌, ◌≤◌, ◌<◌}
use lib.Dec.{T}
use lib.Ieee.{Float, nan, inf, fin, is_nan, nan_bits, binary64, of_bits, div}
use lib.Ieee.Bits.{nan_bits_is, nan_bits_above}
use borrow.Author.Tests.{lt-ltb, le-ltb}
use Rattle.octets.proofs.Ranges.{true_false}

the_nan : (x : Float) → is_nan x ≡ true → nan ≡ x
unfolding is_nan
the_nan nan t = refl
the_nan (inf s) t = true_false (sym t)
the_nan (fin s m e) t = true_false (sym t)

nan_is : div binary64 (of_bits binary64 0) (of_bits binary64 0) ≡ nan
unfolding div of_bits
nan_is = refl

pub nan_from : (n : ℕ) → 0x7FF0000000000000 < n % 0x8000000000000000 → div binary64 (of_bits binary64 0) (of_bits binary64 0) ≡ of_bits binary64 n
nan_from n h =
    nan_is ∙ the_nan (of_bits binary64 n) (sym (nan_bits_is binary64 n) ∙ nan_bits_above binary64 n ∙ lt-ltb 0x7FF0000000000000 (n % 0x8000000000000000) h)

pub no_nan : (n : ℕ) → n % 0x8000000000000000 ≤ 0x7FF0000000000000 → T (not (nan_bits binary64 n))
no_nan n h = rw (nan_bits_above binary64 n ∙ le-ltb 0x7FF0000000000000 (n % 0x8000000000000000) h) tt
