-- The first test that fails, each law in the shape of a need of the code: t is what a test told. Assumes nothing.
use mathlib.Core.Path.{◌≡◌, refl}
use mathlib.Core.Bool.{Bool, true, false, not}
use Prim.Native.Nat.{ℕ, zero, suc}
use borrow.Author.Tests.{not-true, not-false}
use Rattle.faults.specs.Code.Tests.{fault_unless, or_fault}

module _ (t fits : Bool) (n behind : ℕ) (e : t ≡ fits) where
  pub failed : not t ≡ true → n ≡ fault_unless fits n behind
  unfolding fault_unless
  failed f = rw (← e, not-true t f)

  pub passed : (r : ℕ) → not t ≡ false → r ≡ behind → r ≡ fault_unless fits n behind
  unfolding fault_unless
  passed r f g = rw (← e, not-false t f) g

-- of two numbers the first that is told
told_once : (n behind : ℕ) → (n ≡ 0 → ⊥) → n ≡ or_fault n behind
unfolding or_fault
told_once zero behind f = absurd (f refl)
told_once (suc n) behind f = refl

module _ (t told behind : ℕ) (e : t ≡ told) where
  pub told_first : (t ≡ 0 → ⊥) → t ≡ or_fault told behind
  told_first f = rw (← e) (told_once t behind f)

  pub told_later : (r : ℕ) → t ≡ 0 → r ≡ behind → r ≡ or_fault told behind
  unfolding or_fault
  told_later r f g = rw (← e, f) g

pub ruleset chain = (failed, passed, told_first, told_later)
