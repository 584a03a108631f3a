-- Reals that single precision holds: a real that is read is finite and a float 64, so that its bits tell. Each law in the shape of a need of
-- the code. Assumes nothing.
use mathlib.Core.Path.{◌≡◌, refl, sym, ap, subst, ◌∙◌}
use mathlib.Core.Bool.{Bool, true, false, not, ◌&&◌}
use mathlib.Core.{List.List, Option.Option, Option.some, Option.none}
use Prim.Native.Nat.{ℕ, ◌^◌}
use native.Mathlib.Omega.{arith}
use lib.{Dec.T, IntN.ℤ, IntN.pos, IntN.negsuc, IntN.nat_abs}
use lib.Ieee.{Float, Format, binary32, binary64, fits, is_nan, of_bits, of_int, to_bits}
use lib.Ieee.Fits.{of_int-fits}
use Rattle.octets.specs.Choice.{either}
use Rattle.octets.proofs.Ranges.{true_is}
use Rattle.element.specs.{Meaning.Element, Code.At.leaf_at}
use Rattle.element.specs.Meaning.Element.{null, truth, whole, single, double, text, octets, typed, list, table}
use Rattle.number.specs.declared.Number.TheVariants.{Real}
use Rattle.number.specs.Number.{finite, number_of}
use Rattle.number.proofs.{Finite.is_fin, Finite.bits_fin, Finite.bits_fit, Finite.valued_fin, Finite.fin_no_nan, Singles.fits_by_bits}
use Rattle.std.specs.Prelude.{Option as Answer, Some, None}
use Rattle.field.specs.{Kind.Kind, Kind.Value, Judge.in_range, Judge.when, Judge.on_some, Judge.real_in, Judge.judge}
use Rattle.field.specs.{Cell.figure_of, Code.Read.tell, Code.Read.read_at}
use Rattle.field.proofs.{Numbers.number_there, Reals.is_negative, Reals.whole_value, Reals.read_some, Reals.read_none}

-- finite, and a float 64
record Held (x : Float) : Type 0 where
  finite_there : T (is_fin x)
  fits_there : T (fits binary64 x)

held_whole : (z : ℤ) (x : Float) (b : Bool) → in_range (2 ^ 53) (2 ^ 53) z ≡ b → either b (λ _. some (of_int binary64 z)) (λ _. none) ≡ some x → Held x
held_whole z x true e h =
    let i : of_int binary64 z ≡ x = cc in
    subst Held i (record { finite_there = valued_fin (of_int binary64 z) (is_negative z) (nat_abs z) 1 (whole_value z (true_is (in_range (2 ^ 53) (2 ^ 53) z) (sym e))); fits_there = of_int-fits binary64 z })
held_whole z x false e h = absurd (let i : ◌≡◌ {A = ℕ} 0 1 = cc in omega arith)

held_bits : (f : Format) (n : ℕ) (x : Float) (b : Bool) → finite f n ≡ b → real_in (either b (λ _. Some (Real (of_bits f n))) (λ _. None)) ≡ some x → Held x
held_bits f n x true e h =
    let i : of_bits f n ≡ x = cc in
    subst Held i (record { finite_there = true_is (is_fin (of_bits f n)) (sym (bits_fin f n ∙ e)); fits_there = bits_fit f n })
held_bits f n x false e h = absurd (let i : ◌≡◌ {A = ℕ} 0 1 = cc in omega arith)

held : (e : Element) (x : Float) → real_in (number_of e) ≡ some x → Held x
held null x h = absurd (let i : ◌≡◌ {A = ℕ} 0 1 = cc in omega arith)
held (truth b) x h = absurd (let i : ◌≡◌ {A = ℕ} 0 1 = cc in omega arith)
held (whole (pos n)) x h = held_whole (pos n) x (in_range (2 ^ 53) (2 ^ 53) (pos n)) refl h
held (whole (negsuc k)) x h = held_whole (negsuc k) x (in_range (2 ^ 53) (2 ^ 53) (negsuc k)) refl h
held (single n) x h = held_bits binary32 n x (finite binary32 n) refl h
held (double n) x h = held_bits binary64 n x (finite binary64 n) refl h
held (text d) x h = absurd (let i : ◌≡◌ {A = ℕ} 0 1 = cc in omega arith)
held (octets d) x h = absurd (let i : ◌≡◌ {A = ℕ} 0 1 = cc in omega arith)
held (typed t d) x h = absurd (let i : ◌≡◌ {A = ℕ} 0 1 = cc in omega arith)
held (list es) x h = absurd (let i : ◌≡◌ {A = ℕ} 0 1 = cc in omega arith)
held (table fs) x h = absurd (let i : ◌≡◌ {A = ℕ} 0 1 = cc in omega arith)

fits_told : (x : Float) → Held x → (finite binary64 (to_bits binary64 x) && fits binary32 (of_bits binary64 (to_bits binary64 x))) ≡ fits binary32 x
fits_told x y = fits_by_bits x y.fits_there ∙ go (is_fin x) y.finite_there
  where
    go : (b : Bool) → T b → (b && fits binary32 x) ≡ fits binary32 x
    go true t = refl
    go false t = absurd t

abbrev as_single : Float → Option Value
as_single x = when (fits binary32 x) (Value.figure x)

-- the element at a place, by the real that it is read as
module _ (s : List ℕ) (at : ℕ) (a : Answer Float) (e : a ≡ read_at figure_of Kind.reals s at) where
  by_real : (o : Option Float) → real_in (number_of (leaf_at s at)) ≡ o → tell figure_of (on_some o as_single) ≡ read_at figure_of Kind.singles s at
  unfolding read_at judge
  by_real o f = ap (λ (i : Option Float). tell figure_of (on_some i as_single)) (sym (ap real_in (number_there s at) ∙ f))

  pub single_not : a ≡ None → None ≡ read_at figure_of Kind.singles s at
  unfolding tell
  single_not g = by_real none (read_none s at a e g)

  module _ (x : Float) (g : a ≡ Some x) where
    figure_held : Held x
    figure_held = held (leaf_at s at) x (read_some s at a e x g)

    pub single_no_nan : T (not (is_nan x))
    single_no_nan = fin_no_nan x figure_held.finite_there

    module _ (t : Bool) (h : t ≡ (finite binary64 (to_bits binary64 x) && fits binary32 (of_bits binary64 (to_bits binary64 x)))) where
      by_fit : (b : Bool) → t ≡ b → tell figure_of (when b (Value.figure x)) ≡ read_at figure_of Kind.singles s at
      by_fit b u =
          ap (λ (c : Bool). tell figure_of (when c (Value.figure x))) (sym u ∙ h ∙ fits_told x figure_held)
          ∙ by_real (some x) (read_some s at a e x g)

      pub single_good : t ≡ true → Some x ≡ read_at figure_of Kind.singles s at
      unfolding tell
      single_good u = by_fit true u

      pub single_wide : t ≡ false → None ≡ read_at figure_of Kind.singles s at
      unfolding tell
      single_wide u = by_fit false u

pub ruleset singles = (single_no_nan, single_good, single_wide, single_not)
