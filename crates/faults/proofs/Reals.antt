-- Reals that may be absent, each law in the shape of a need of the code. A NaN is neither finite nor zero. Assumes nothing.
use mathlib.Core.Path.{◌≡◌, refl, sym, ◌∙◌}
use mathlib.Core.Bool.{Bool, true, false, not, ◌&&◌, and-true}
use lib.Dec.{T, eqb, eqb→eq}
use lib.Ieee.{Float, nan, inf, fin, binary32, binary64, is_nan, to_bits, of_bits, of_fields, odd, fits as holds}
use lib.Ieee.Bits.{of_bits-to_bits}
use Rattle.octets.proofs.Ranges.{is_true, true_is, true_false, both_left, both_right}
use Rattle.number.specs.Number.{finite}
use Rattle.field.specs.declared.Position.{Position}
use Rattle.message.specs.declared.Maybe.{Maybe}
use Rattle.saying.specs.{Says.no_bits, Says.no_position, Fits.is_real, Fits.is_position}
use Rattle.faults.specs.Code.Tests.{is_single, real_fits, position_fits}

pub no_nan : (x : Float) (t : Bool) → t ≡ is_nan x → t ≡ false → T (not (is_nan x))
no_nan x t e f = rw (← e, f) tt

is_nan_lem : (x : Float) → is_nan x ≡ true → x ≡ nan
unfolding is_nan
is_nan_lem nan e = refl
is_nan_lem (inf s) e = true_false (sym e)
is_nan_lem (fin s m e) q = true_false (sym q)

pub nan_unreal : (x : Float) (t : Bool) → t ≡ is_nan x → t ≡ true → false ≡ is_real x
unfolding to_bits
nan_unreal x t e f = rw (is_nan_lem x (sym e ∙ f)) refl

pub nan_bits : (x : Float) (t : Bool) → t ≡ is_nan x → t ≡ true → false ≡ no_bits x
unfolding to_bits
nan_bits x t e f = rw (is_nan_lem x (sym e ∙ f)) refl

pub held_real : (x : Float) → holds binary64 x ≡ true → finite binary64 (to_bits binary64 x) ≡ is_real x
held_real x e = rw (e, and-true)

pub held_bits : (x : Float) → holds binary64 x ≡ true → eqb (to_bits binary64 x) 0 ≡ no_bits x
held_bits x e = rw (e, and-true)

pub ruleset reals = (no_nan, nan_unreal, nan_bits, held_real, held_bits)

-- single precision, told from the bits
pub nan_single : (x : Float) (t : Bool) → t ≡ is_nan x → t ≡ true → false ≡ is_single x
unfolding is_single
nan_single x t e f = rw (← nan_unreal x t e f)

by_bits : (x : Float) → T (holds binary64 x) → is_single x ≡ (finite binary64 (to_bits binary64 x) && holds binary32 (of_bits binary64 (to_bits binary64 x)))
unfolding is_single
by_bits x t = rw (← is_true (holds binary64 x) t, and-true, of_bits-to_bits binary64 x t)

pub held_single : (x : Float) (r : Bool) → holds binary64 x ≡ true → r ≡ (finite binary64 (to_bits binary64 x) && holds binary32 (of_bits binary64 (to_bits binary64 x))) → r ≡ is_single x
held_single x r e f = f ∙ sym (by_bits x (true_is (holds binary64 x) (sym e)))

pub ruleset singles = (no_nan, nan_single, held_single)

-- plus zero is one
zero_held : (finite binary64 0 && holds binary32 (of_bits binary64 0)) ≡ true
unfolding of_bits of_fields odd holds
zero_held = refl

pub zero_single : (x : Float) → T (no_bits x) → is_single x ≡ true
zero_single x t =
    let e = eqb→eq (to_bits binary64 x) 0 (both_left (eqb (to_bits binary64 x) 0) (holds binary64 x) t) in
    by_bits x (both_right (eqb (to_bits binary64 x) 0) (holds binary64 x) t) ∙ rw e zero_held

-- where it is here, and where it is absent
module _ (x : Maybe Float) (r : Bool) where
  pub real_here : x.here ≡ true → r ≡ is_real x.value → r ≡ real_fits x
  unfolding real_fits
  real_here e f = rw e f

  pub real_absent : x.here ≡ false → r ≡ no_bits x.value → r ≡ real_fits x
  unfolding real_fits
  real_absent e f = rw e f

module _ (x : Maybe Position) (r : Bool) where
  pub position_here : x.here ≡ true → r ≡ is_position x.value → r ≡ position_fits x
  unfolding position_fits
  position_here e f = rw e f

  pub position_absent : x.here ≡ false → r ≡ no_position x.value → r ≡ position_fits x
  unfolding position_fits
  position_absent e f = rw e f

pub ruleset absents = (real_here, real_absent, position_here, position_absent)
