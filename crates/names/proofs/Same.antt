-- The test of bytes is equality of lists. Assumes nothing.
use mathlib.Core.Path.{◌≡◌, refl, ap₂, subst}
use mathlib.Core.{Bool.true, List.List, List.[], List.◌∷◌}
use Prim.Native.Nat.{ℕ}
use lib.Dec.{T, eqb, eqb→eq}
use borrow.Author.Tests.{eq-eqb}
use Rattle.octets.proofs.Ranges.{both_left, both_right}
use Rattle.names.specs.Names.{same_bytes}

pub same_refl : (a : List ℕ) → same_bytes a a ≡ true
same_refl [] = refl
same_refl (x ∷ xs) = rw (eq-eqb x x refl) (same_refl xs)

pub eq_same : (a b : List ℕ) → a ≡ b → same_bytes a b ≡ true
eq_same a b e = subst (λ (x : List ℕ). same_bytes a x ≡ true) e (same_refl a)

pub passed_eq : (a b : List ℕ) → T (same_bytes a b) → a ≡ b
passed_eq [] [] t = refl
passed_eq [] (y ∷ ys) t = absurd t
passed_eq (x ∷ xs) [] t = absurd t
passed_eq (x ∷ xs) (y ∷ ys) t =
    ap₂ (λ (z : ℕ) (zs : List ℕ). z ∷ zs)
    (eqb→eq x y (both_left (eqb x y) (same_bytes xs ys) t))
    (passed_eq xs ys (both_right (eqb x y) (same_bytes xs ys) t))

pub same_eq : (a b : List ℕ) → same_bytes a b ≡ true → a ≡ b
same_eq a b e = passed_eq a b (rw e tt)

pub ruleset same = (same_refl, eq_same, same_eq)
