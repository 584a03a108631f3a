-- Truth values: what a test that holds says, and what two that contradict each other do. Assumes nothing.
use Prim.Native.Nat.{ℕ}
use mathlib.Core.Path.{◌≡◌, refl}
use mathlib.Core.Bool.{Bool, true, false, not, ◌&&◌}
use native.Mathlib.Omega.{arith}
use lib.Dec.{eqb}
use borrow.Author.Tests.{eqb-true, ne_eqb}
use Rattle.meters.specs.Rows.{is_mark}

pub never : {A : Type 0} → ◌≡◌ {A = Bool} false true → A
never e = let z : ◌≡◌ {A = ℕ} 0 1 = cc in absurd (omega arith)

pub both : (a b : Bool) → a && b ≡ true → (a ≡ true) × (b ≡ true)
both true b e = (refl, e)
both false b e = never e

pub and-false : (b : Bool) → b && false ≡ false
and-false true = refl
and-false false = refl

-- a row with this mark and EUI that is x's is used and has x's EUI
pub of_meter : (u e x : ℕ) → is_mark u e x ≡ true → (eqb u 0 ≡ false) × (e ≡ x)
of_meter u e x t = by (eqb u 0) refl t
  where
    by : (b : Bool) → eqb u 0 ≡ b → not b && eqb e x ≡ true → (eqb u 0 ≡ false) × (e ≡ x)
    by true p q = never q
    by false p q = (p, eqb-true e x q)

pub other_eui : (u e x : ℕ) → (e ≡ x → ⊥) → is_mark u e x ≡ false
other_eui u e x f = simp (ne_eqb e x f, and-false)
