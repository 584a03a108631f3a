-- What reading finds under each key where it finds no fault: under a key that the command has, what is said of it, nothing or a value in the
-- range of the key's kind there; under the others nothing. By induction over the command's list. Assumes nothing.
use mathlib.Core.Path.{◌≡◌, refl, ap, ◌∙◌}
use mathlib.Core.{Bool.Bool, Bool.true, Bool.false, List.List, List.[], List.◌∷◌}
use Prim.Native.Nat.{ℕ, zero, suc, max}
use native.Mathlib.Omega.{arith}
use lib.Dec.{T}
use Rattle.field.specs.{Kind.Kind, Cell.Said, Cell.Cell, Cell.cell_of}
use Rattle.message.specs.Fields.{Field, fields_of}
use Rattle.message.specs.Reading.{cells_of, cell_fault, graded, gravest, look_in}
use Rattle.message.proofs.KeyKinds.{kind_for, agreed, first_agreed, others_agreed, kinds_of, lacks}
use Rattle.message.proofs.Looked.{Each, unlisted, listed}
use Rattle.saying.proofs.Fair.{Fair, is_kept, sound, cell_fair}

-- where the gravest fault is none, no field has one
none_before : (l : List Field) (cs : List Cell) (g i : ℕ) → gravest g i l cs ≡ 0 → g ≡ 0
unfolding gravest
none_before [] cs g i e = e
none_before (f ∷ l) [] g i e = e
none_before (f ∷ l) (c ∷ cs) g i e =
    let n = none_before l cs (max g (graded (cell_fault f.must c) i)) (suc i) e in
    omega arith

none_graded : (f i : ℕ) → graded f i ≡ 0 → f ≡ 0
none_graded zero i e = refl
none_graded (suc f) i e = absurd (omega arith)

-- the cells of a list, and that of a key
module _ (said : List ℕ → Said) where
  abbrev pub cell_at : Field → Cell
  cell_at f = cell_of f.kind (said f.key)

  abbrev pub cell_for : ℕ → List ℕ → Cell
  cell_for c u = cell_of (kind_for c u) (said u)

  pub own_cell : (c : ℕ) (f : Field) (l : List Field) (u : List ℕ) → T (agreed c (f ∷ l)) → f.key ≡ u → cell_at f ≡ cell_for c u
  own_cell c f l u a e = ap (λ (k : Kind). cell_of k (said f.key)) (first_agreed c f l a) ∙ ap (cell_for c) e

  abbrev pub AllSound : List Field → Type 0
  AllSound [] = Unit {0}
  AllSound (f ∷ l) = (cell_fault f.must (cell_at f) ≡ 0) × AllSound l

  pub all_sound : (l : List Field) (g i : ℕ) → gravest g i l (cells_of l said) ≡ 0 → AllSound l
  unfolding gravest cells_of
  all_sound [] g i e = tt
  all_sound (f ∷ l) g i e =
      let h = max g (graded (cell_fault f.must (cell_at f)) i) in
      let z : h ≡ 0 = none_before l (cells_of l said) h (suc i) e in
      (none_graded (cell_fault f.must (cell_at f)) i (omega arith), all_sound l h (suc i) e)

  -- the cell of a key in a command's list
  abbrev pub found : ℕ → List ℕ → Cell
  found c u = look_in Cell.missing (fields_of c) (cells_of (fields_of c) said) u

  module _ (u : List ℕ) (c : ℕ) where
    own_cells : (l : List Field) → T (agreed c l) → Each (λ f x. f.key ≡ u → x ≡ cell_for c u) l (cells_of l said)
    unfolding cells_of
    own_cells [] a = tt
    own_cells (f ∷ l) a = (own_cell c f l u a, own_cells l (others_agreed c f l a))

    pub found_own : lacks (fields_of c) u ≡ false → found c u ≡ cell_for c u
    found_own = listed u (λ x. x ≡ cell_for c u) (fields_of c) (cells_of (fields_of c) said) Cell.missing (own_cells (fields_of c) (kinds_of c))

    pub found_none : lacks (fields_of c) u ≡ true → found c u ≡ Cell.missing
    found_none = unlisted u (fields_of c) (cells_of (fields_of c) said) Cell.missing

    module _ (k : T (is_kept (kind_for c u))) where
      own_fair : (l : List Field) → T (agreed c l) → AllSound l → Each (λ f x. f.key ≡ u → Fair (kind_for c u) x) l (cells_of l said)
      unfolding cells_of
      own_fair [] a s = tt
      own_fair (f ∷ l) a s =
          (λ e. rw (own_cell c f l u a e) (cell_fair (kind_for c u) k (said u) (rw (own_cell c f l u a e) at (sound f.must (cell_at f) s.0))), own_fair l (others_agreed c f l a) s.1)

  pub fair : (c : ℕ) → AllSound (fields_of c) → (u : List ℕ) → T (is_kept (kind_for c u)) → Fair (kind_for c u) (found c u)
  fair c s u k = go (lacks (fields_of c) u) refl
    where
      go : (b : Bool) → lacks (fields_of c) u ≡ b → Fair (kind_for c u) (found c u)
      go false e = listed u (Fair (kind_for c u)) (fields_of c) (cells_of (fields_of c) said) Cell.missing (own_fair u c k (fields_of c) (kinds_of c) s) e
      go true e = rw (found_none u c e) (Fair.left (kind_for c u))
