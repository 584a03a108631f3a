-- A field by its place, each law in the shape of a need of the code. Assumes nothing.
use mathlib.Core.Path.{◌≡◌, refl, sym, ap, ◌∙◌}
use mathlib.Core.List.{List}
use mathlib.Core.Option as maybe
use Prim.Native.Nat.{ℕ, zero, suc}
use native.Mathlib.Omega.{arith}
use Rattle.std.specs.Prelude.{Option, Result, Ok, Err, ok_or}
use Rattle.field.specs.declared.Flaw.{Flaw, TheVariants.Invalid, TheVariants.Missing, TheVariants.Twice}
use Rattle.field.specs.{Kind.Kind, Kind.Value, Judge.judge, Cell.Cell, Cell.judged, Cell.value_in, Cell.word_of}
use Rattle.field.specs.{Code.Told.told_of, Code.At.seen_at, Code.At.cell_at, Code.Read.tell, Code.Read.read_at, Code.Read.place_of}

-- a place that a field has is its own
pub place_is : (p : ℕ) (o : Result ℕ Flaw) → o ≡ place_of p → (q : ℕ) → o ≡ Ok q → q ≡ p
place_is p o e q y = go p (sym y ∙ e)
  where
    go : (p : ℕ) → Ok q ≡ place_of p → q ≡ p
    go zero z = absurd (let i : ◌≡◌ {A = ℕ} 0 1 = cc in omega arith)
    go (suc zero) z = absurd (let i : ◌≡◌ {A = ℕ} 0 1 = cc in omega arith)
    go (suc (suc p)) z = cc

module _ {A : Type 0} (f : Value → A) (k : Kind) (s : List ℕ) where
  told_by : (o : maybe.Option Value) → ok_or (tell f o) Invalid ≡ told_of f (judged o)
  unfolding tell
  told_by maybe.none = refl
  told_by (maybe.some v) = refl

  module _ (p : ℕ) (o : Result ℕ Flaw) (e : o ≡ place_of p) where
    -- its value has no one place
    pub cell_absent : (x : Flaw) → o ≡ Err x → Err x ≡ told_of f (cell_at k s p)
    unfolding cell_at
    cell_absent x y = go p (sym y ∙ e)
      where
        go : (p : ℕ) → Err x ≡ place_of p → Err x ≡ told_of f (cell_at k s p)
        go zero z = let i : x ≡ Missing = cc in ap (λ (y : Flaw). Err y) i
        go (suc zero) z = let i : x ≡ Twice = cc in ap (λ (y : Flaw). Err y) i
        go (suc (suc p)) z = absurd (let i : ◌≡◌ {A = ℕ} 0 1 = cc in omega arith)

    -- it is looked at
    pub cell_there : (q : ℕ) → o ≡ Ok q → (x : Option A) → x ≡ read_at f k s q → (r : Result A Flaw) → r ≡ ok_or x Invalid → r ≡ told_of f (cell_at k s p)
    unfolding cell_at read_at
    cell_there q y x g r h = h ∙ ap (λ (i : Option A). ok_or i Invalid) (g ∙ ap (λ (i : ℕ). tell f (judge k (seen_at k s i))) (place_is p o e q y)) ∙ go p (sym y ∙ e)
      where
        go : (p : ℕ) → Ok q ≡ place_of p → ok_or (tell f (judge k (seen_at k s p))) Invalid ≡ told_of f (cell_at k s p)
        go zero z = absurd (let i : ◌≡◌ {A = ℕ} 0 1 = cc in omega arith)
        go (suc zero) z = absurd (let i : ◌≡◌ {A = ℕ} 0 1 = cc in omega arith)
        go (suc (suc p)) z = told_by (judge k (seen_at k s (suc (suc p))))

pub ruleset cells = (cell_absent, cell_there)

-- what a caller learns of the word: it is the value's
pub told_word : (r : Result ℕ Flaw) (x : Cell) → r ≡ told_of word_of x → (n : ℕ) → r ≡ Ok n → n ≡ word_of (value_in x)
told_word r Cell.missing e n y = absurd (let i : ◌≡◌ {A = ℕ} 0 1 = cc in omega arith)
told_word r Cell.double e n y = absurd (let i : ◌≡◌ {A = ℕ} 0 1 = cc in omega arith)
told_word r Cell.bad e n y = absurd (let i : ◌≡◌ {A = ℕ} 0 1 = cc in omega arith)
told_word r (Cell.good v) e n y = cc

-- and where there is none, that its value is nothing
pub told_nothing : (r : Result ℕ Flaw) (x : Cell) → r ≡ told_of word_of x → (f : Flaw) → r ≡ Err f → value_in x ≡ Value.nothing
told_nothing r Cell.missing e f y = refl
told_nothing r Cell.double e f y = refl
told_nothing r Cell.bad e f y = refl
told_nothing r (Cell.good v) e f y = absurd (let i : ◌≡◌ {A = ℕ} 0 1 = cc in omega arith)
