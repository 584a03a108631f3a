-- Comparisons of signed numbers stay as they are where the sizes are put in other numbers in the same order, and zero in zero. Assumes nothing.
use mathlib.Core.{Path.◌≡◌, Path.refl, Path.subst, Logic.◌⊎◌, Logic.inl, Logic.inr}
use mathlib.Core.Bool.{Bool, true, false}
use Prim.Native.Nat.{ℕ, ◌+◌, ◌≤◌, ◌<◌}
use native.Mathlib.Nat.{le_of_suc-le-suc, lt_of_not-le, eq-or-lt_of_le, le_of_lt}
use native.Mathlib.Omega.{arith}
use lib.{Dec.ltb, Dec.eqb, Ieee.below, Ieee.level}
use borrow.Author.Tests.{ltb-true, lt-ltb, eqb-true, eq-eqb}
use Rattle.octets.proofs.Ranges.{same_test}

-- a number R that stands for another, in the same order
pub record Rising (R : ℕ → ℕ → Type 0) : Type 0 where
  pub up : (x a y b : ℕ) → R x a → R y b → x < y → a < b
  pub one : (x a b : ℕ) → R x a → R x b → a ≡ b
  pub least : R 0 0

module _ (R : ℕ → ℕ → Type 0) (r : Rising R) where
  up_to : (x a y b : ℕ) → R x a → R y b → x ≤ y → a ≤ b
  up_to x a y b p q h = go (eq-or-lt_of_le h)
    where
      go : (x ≡ y) ⊎ (x < y) → a ≤ b
      go (inl e) = omega (arith, r.one y a b (subst (λ (z : ℕ). R z a) e p) q)
      go (inr k) = le_of_lt (r.up x a y b p q k)

  down : (x a y b : ℕ) → R x a → R y b → a < b → x < y
  down x a y b p q h = lt_of_not-le (λ (k : y ≤ x). omega (arith, up_to y b x a q p k))

  down_to : (x a y b : ℕ) → R x a → R y b → a ≤ b → x ≤ y
  down_to x a y b p q h = le_of_suc-le-suc (lt_of_not-le (λ (k : y < x). omega (arith, r.up y b x a q p k)))

  less : (x a y b : ℕ) → R x a → R y b → ltb x y ≡ ltb a b
  less x a y b p q = same_test (ltb x y) (ltb a b) (λ t. lt-ltb a b (r.up x a y b p q (ltb-true x y t))) (λ t. lt-ltb x y (down x a y b p q (ltb-true a b t)))

  alike : (x a y b : ℕ) → R x a → R y b → eqb x y ≡ eqb a b
  alike x a y b p q =
      same_test (eqb x y) (eqb a b) (λ t. eq-eqb a b (r.one y a b (subst (λ (z : ℕ). R z a) (eqb-true x y t) p) q))
      (λ t. let e = eqb-true a b t in eq-eqb x y (omega (arith, down_to x a y b p q (omega arith), down_to y b x a q p (omega arith))))

  any : (x a y b : ℕ) → R x a → R y b → ltb 0 (x + y) ≡ ltb 0 (a + b)
  any x a y b p q =
      same_test (ltb 0 (x + y)) (ltb 0 (a + b))
      (λ t. lt-ltb 0 (a + b) (lt_of_not-le (λ (k : a + b ≤ 0). omega (arith, ltb-true 0 (x + y) t, down_to x a 0 0 p r.least (omega arith), down_to y b 0 0 q r.least (omega arith)))))
      (λ t. lt-ltb 0 (x + y) (lt_of_not-le (λ (k : x + y ≤ 0). omega (arith, ltb-true 0 (a + b) t, up_to x a 0 0 p r.least (omega arith), up_to y b 0 0 q r.least (omega arith)))))

  pub same_below : (s t : Bool) (x a y b : ℕ) → R x a → R y b → below s x t y ≡ below s a t b
  same_below false false x a y b p q = less x a y b p q
  same_below false true x a y b p q = refl
  same_below true false x a y b p q = any x a y b p q
  same_below true true x a y b p q = less y b x a q p

  pub same_level : (s t : Bool) (x a y b : ℕ) → R x a → R y b → level s x t y ≡ level s a t b
  same_level s t x a y b p q = rw (alike x a y b p q, alike x a 0 0 p r.least)
