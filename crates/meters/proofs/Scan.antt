-- The first row that passes a test: where it is, and what stands before it. By induction on the rows. Assumes nothing.
use Prim.Native.Nat.{ℕ, zero, suc, ◌≤◌, ◌<◌}
use mathlib.Core.Path.{◌≡◌, refl, sym, ap, ◌∙◌}
use mathlib.Core.Bool.{Bool, true, false, cond}
use mathlib.Core.List.{List, [], ◌∷◌, map}
use native.Mathlib.Nat.{zero-lt-suc, le_of_suc-le-suc}
use native.Mathlib.Omega.{arith}
use lib.ListN.{length, get_or, set, length-set}
use lib.Seq.{get_or-set_same, get_or-set_other}
use Rattle.meters.specs.declared.Row.{Row}
use Rattle.meters.specs.Table.{no_row, first}
use Rattle.meters.proofs.Truth.{never}

module _ (t : Row → Bool) where
  -- no row before i passes, and row i does
  first_is : (rows : List Row) (i : ℕ) → ((k : ℕ) → k < i → t (get_or rows k no_row) ≡ false) → i < length rows → t (get_or rows i no_row) ≡ true → i ≡ first t rows
  unfolding first
  first_is [] i b l e = absurd (omega arith)
  first_is (r ∷ rows) zero b l e = simp e
  first_is (r ∷ rows) (suc i) b l e = simp (b 0 (zero-lt-suc i)) (ap suc (first_is rows i (λ k h. b (suc k) (omega arith)) (le_of_suc-le-suc l) e))

  pub first_passes : (rows : List Row) → first t rows < length rows → t (get_or rows (first t rows) no_row) ≡ true
  unfolding first
  first_passes [] l = absurd (omega arith)
  first_passes (r ∷ rows) l = by (t r) refl (first_passes rows) l
    where
      by : (b : Bool) → t r ≡ b → (first t rows < length rows → t (get_or rows (first t rows) no_row) ≡ true)
          → cond b 0 (suc (first t rows)) < suc (length rows) → t (get_or (r ∷ rows) (cond b 0 (suc (first t rows))) no_row) ≡ true
      by true e rest g = e
      by false e rest g = rest (le_of_suc-le-suc g)

  pub first_before : (rows : List Row) (k : ℕ) → k < first t rows → t (get_or rows k no_row) ≡ false
  unfolding first
  first_before [] k l = absurd (omega arith)
  first_before (r ∷ rows) k l = by (t r) refl (first_before rows) k l
    where
      by : (b : Bool) → t r ≡ b → ((j : ℕ) → j < first t rows → t (get_or rows j no_row) ≡ false)
          → (j : ℕ) → j < cond b 0 (suc (first t rows)) → t (get_or (r ∷ rows) j no_row) ≡ false
      by true e rest j g = absurd (omega arith)
      by false e rest zero g = e
      by false e rest (suc j) g = rest j (le_of_suc-le-suc g)

  pub first_within : (rows : List Row) → first t rows ≤ length rows
  unfolding first
  first_within [] = omega arith
  first_within (r ∷ rows) = by (t r) (first_within rows)
    where
      by : (b : Bool) → first t rows ≤ length rows → cond b 0 (suc (first t rows)) ≤ suc (length rows)
      by true g = omega arith
      by false g = omega arith

  -- rows that pass the test alike
  pub first_same : {A : Type 0} (f g : A → Row) → ((a : A) → t (f a) ≡ t (g a)) → (l : List A) → first t (map f l) ≡ first t (map g l)
  unfolding first
  first_same f g e [] = refl
  first_same f g e (a ∷ l) = ap (λ (b : Bool). cond b 0 (suc (first t (map f l)))) (e a) ∙ ap (λ (k : ℕ). cond (t (g a)) 0 (suc k)) (first_same f g e l)

  -- a row that does not pass becomes another that does not
  pub first_set : (rows : List Row) (i : ℕ) (r : Row) → t (get_or rows i no_row) ≡ false → t r ≡ false → first t (set rows i r) ≡ first t rows
  unfolding first
  first_set [] i r p q = refl
  first_set (y ∷ rows) zero r p q = simp (p, q)
  first_set (y ∷ rows) (suc i) r p q = ap (λ (k : ℕ). cond (t y) 0 (suc k)) (first_set rows i r p q)

  -- a row becomes one that passes, and none before it does
  pub first_put : (rows : List Row) (i : ℕ) (r : Row) → i ≤ first t rows → i < length rows → t r ≡ true → first t (set rows i r) ≡ i
  first_put rows i r b l e =
      sym
      (first_is (set rows i r) i
      (λ k h.
      let d : k ≡ i → ⊥ = λ f. omega arith in
      ap t (get_or-set_other rows i k r no_row d) ∙ first_before rows k (omega arith))
      (rw (length-set rows i r) l)
      (ap t (get_or-set_same rows i r no_row l) ∙ e))

  -- the row at the place found is not one that does not pass
  pub first_apart : (rows : List Row) (i : ℕ) → i < length rows → t (get_or rows i no_row) ≡ false → first t rows ≡ i → ⊥
  first_apart rows i l p e = never (sym p ∙ ap (λ (k : ℕ). t (get_or rows k no_row)) (sym e) ∙ first_passes rows (rw e l))
