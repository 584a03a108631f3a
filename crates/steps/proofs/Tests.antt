-- What tests say that are negated or joined, and what the judgement of a record says. Assumes nothing.
use mathlib.Core.Path.{◌≡◌, refl, sym, ◌∙◌}
use mathlib.Core.Bool.{Bool, true, false, not, ◌&&◌, ◌||◌}
use mathlib.Core.List.{List}
use Prim.Native.Nat.{ℕ}
use borrow.Author.Tests.{eq-eqb, ne_eqb}
use Rattle.octets.proofs.Ranges.{true_false}
use Rattle.record.specs.declared.Message.{Message}
use Rattle.record.specs.Fits.{fault_in, fits}

pub unset : (b : Bool) → not b ≡ true → b ≡ false
unset true e = sym e
unset false e = refl

pub set_is : (b : Bool) → not b ≡ false → b ≡ true
set_is true e = refl
set_is false e = sym e

-- neither is false, or one is
pub both_set : (a b : Bool) → not a || not b ≡ false → (a ≡ true) × (b ≡ true)
both_set true true e = (refl, refl)
both_set true false e = true_false e
both_set false b e = true_false e

pub not_both : (a b : Bool) → not a || not b ≡ true → a && b ≡ false
not_both true true e = sym e
not_both true false e = refl
not_both false b e = refl

pub and_assoc : (a b c : Bool) → (a && b) && c ≡ a && (b && c)
and_assoc true b c = refl
and_assoc false b c = refl

pub and-true : (b : Bool) → b && true ≡ b
and-true true = refl
and-true false = refl

-- the first field at fault, as the code has it
module _ (m : Message) (d : List ℕ) (f : ℕ) (e : f ≡ fault_in m d) where
  pub fault_none : f ≡ 0 → true ≡ fits m d
  fault_none h = sym (eq-eqb (fault_in m d) 0 (sym e ∙ h))

  pub fault_some : (f ≡ 0 → ⊥) → fits m d ≡ false
  fault_some h = ne_eqb (fault_in m d) 0 (λ p. h (e ∙ p))
