-- What reading finds of each key, for rows that fit a list of fields and have no key beside: its value where they say one, nothing where they say none.
-- By induction over the list, then over the rows. Assumes nothing.
use mathlib.Core.Path.{◌≡◌, refl, sym, ap, subst, ◌∙◌}
use mathlib.Core.Bool.{Bool, true, false, not, ◌&&◌, ◌||◌}
use mathlib.Core.{List.List, List.[], List.◌∷◌, Option.Option, Option.some, Option.none}
use Prim.Native.Nat.{ℕ, suc, max}
use native.Mathlib.Omega.{arith}
use lib.Dec.{T}
use Rattle.octets.proofs.Ranges.{is_false, both_left, both_right, true_false}
use Rattle.element.specs.Meaning.{meaning_of}
use Rattle.names.specs.Names.{same_bytes}
use Rattle.names.proofs.Same.{same_eq}
use Rattle.field.specs.{Kind.Kind, Kind.Value, Judge.judge, Cell.Cell, Cell.judged}
use Rattle.message.specs.Fields.{Field}
use Rattle.message.specs.Reading.{cell_fault, graded, gravest, look_in}
use Rattle.message.proofs.KeyKinds.{kind_for, agreed, first_agreed, others_agreed, lacks}
use Rattle.message.proofs.Looked.{Each, unlisted, listed}
use Rattle.saying.specs.{Says.Part, Says.Saying, Says.part_in, Fits.within, Fits.said_fits, Fits.field_fits, Written.tree_of}
use Rattle.saying.proofs.{Sayings.cell_by, Sayings.cells_by, Rows.has_row, Rows.says_in, Rows.rowless}

-- the value that reading keeps
abbrev pub kept_by : Kind → Value → Value
kept_by (Kind.wholes lo hi) v = v
kept_by Kind.reals v = v
kept_by Kind.singles v = v
kept_by Kind.flags v = v
kept_by Kind.positions v = v
kept_by (Kind.arrays lo hi) v = v
kept_by (Kind.counters many) v = v
kept_by (Kind.pieces many most all) v = v
kept_by (Kind.texts lo hi) v = v
kept_by Kind.versions v = v
kept_by Kind.words v = Value.nothing
kept_by Kind.maps v = Value.nothing

-- a part of a record and the cell that is read for it
pub data Shown (k : Kind) (p : Part) : Cell → Type 0 where
  spoken : (v : Value) → p.said ≡ some v → T p.clean → T (within k v) → Shown k p (Cell.good (kept_by k v))
  silent : p.said ≡ none → T p.clean → Shown k p Cell.missing

-- each row is that of a field
abbrev pub are_listed : List Field → List Saying → Bool
are_listed l [] = true
are_listed l (r ∷ rs) = not (lacks l r.key) && are_listed l rs

no_row : (l : List Field) (rs : List Saying) (k : List ℕ) → T (are_listed l rs) → lacks l k ≡ true → has_row rs k ≡ false
no_row l [] k t e = refl
no_row l (r ∷ rs) k t e = go (same_bytes r.key k) refl (no_row l rs k (both_right (not (lacks l r.key)) (are_listed l rs) t) e)
  where
    go : (b : Bool) → same_bytes r.key k ≡ b → has_row rs k ≡ false → b || has_row rs k ≡ false
    go true q rest = true_false (sym e ∙ ap (lacks l) (sym (same_eq r.key k q)) ∙ sym (is_false (lacks l r.key) (both_left (not (lacks l r.key)) (are_listed l rs) t)))
    go false q rest = rest

-- each value that the rows say of a field, in its range, reads back
abbrev pub ReadsBack : ℕ → List Saying → Type 0
ReadsBack c rs =
    (f : Field) (v : Value) → f.kind ≡ kind_for c f.key → says_in rs f.key ≡ some v → T (within f.kind v)
    → judge f.kind (meaning_of (tree_of f.kind v)) ≡ some (kept_by f.kind v)

-- each field of a list fits its part
abbrev pub AllFit : List Saying → List Field → Type 0
AllFit rs [] = Unit {0}
AllFit rs (f ∷ l) = T (field_fits f (part_in rs f.key)) × AllFit rs l

module _ (c : ℕ) (rs : List Saying) (back : ReadsBack c rs) where
  module _ (f : Field) (j : f.kind ≡ kind_for c f.key) where
    cell_shown : (o : Option Value) → says_in rs f.key ≡ o → T ((part_in rs f.key).clean && said_fits f o) → Shown f.kind (part_in rs f.key) (cell_by f o)
    cell_shown none e t = silent e (both_left (part_in rs f.key).clean (said_fits f none) t)
    cell_shown (some v) e t =
        let w = both_right (part_in rs f.key).clean (said_fits f (some v)) t in
        subst (λ (o : Option Value). Shown f.kind (part_in rs f.key) (judged o)) (sym (back f v j e w))
        (spoken v e (both_left (part_in rs f.key).clean (said_fits f (some v)) t) w)

    cell_faultless : (o : Option Value) → says_in rs f.key ≡ o → T (said_fits f o) → cell_fault f.must (cell_by f o) ≡ 0
    cell_faultless none e t = go f.must t
      where
        go : (b : Bool) → T (not b) → cell_fault b Cell.missing ≡ 0
        go true t = absurd t
        go false t = refl
    cell_faultless (some v) e t = rw (back f v j e t)

  -- no fault
  pub faultless : (l : List Field) (g i : ℕ) → T (agreed c l) → AllFit rs l → gravest g i l (cells_by (says_in rs) l) ≡ g
  unfolding gravest
  faultless [] g i a t = refl
  faultless (f ∷ l) g i a t =
      let p = part_in rs f.key in
      let z : cell_fault f.must (cell_by f (says_in rs f.key)) ≡ 0 = cell_faultless f (first_agreed c f l a) (says_in rs f.key) refl (both_right p.clean (said_fits f p.said) t.0) in
      let e : max g (graded (cell_fault f.must (cell_by f (says_in rs f.key))) i) ≡ g = rw z (omega arith) in
      rw e (faultless l g (suc i) (others_agreed c f l a) t.1)

  module _ (k : List ℕ) where
    abbrev ShownAt : Cell → Type 0
    ShownAt x = Shown (kind_for c k) (part_in rs k) x

    -- a key of the list
    own_shown : (f : Field) (l : List Field) → T (agreed c (f ∷ l)) → AllFit rs (f ∷ l) → f.key ≡ k → ShownAt (cell_by f (says_in rs f.key))
    own_shown f l a t e =
        let j = first_agreed c f l a in
        subst (λ (j : Kind). Shown j (part_in rs k) (cell_by f (says_in rs f.key))) (j ∙ ap (kind_for c) e)
        (subst (λ (u : List ℕ). Shown f.kind (part_in rs u) (cell_by f (says_in rs f.key))) e
        (cell_shown f j (says_in rs f.key) refl t.0))

    each_shown : (l : List Field) → T (agreed c l) → AllFit rs l → Each (λ f x. f.key ≡ k → ShownAt x) l (cells_by (says_in rs) l)
    each_shown [] a t = tt
    each_shown (f ∷ l) a t = (own_shown f l a t, each_shown l (others_agreed c f l a) t.1)

    -- every key
    pub shown_in : (l : List Field) → T (agreed c l) → AllFit rs l → T (are_listed l rs) → ShownAt (look_in Cell.missing l (cells_by (says_in rs) l) k)
    shown_in l a t o = go (lacks l k) refl
      where
        go : (b : Bool) → lacks l k ≡ b → ShownAt (look_in Cell.missing l (cells_by (says_in rs) l) k)
        go false e = listed k ShownAt l (cells_by (says_in rs) l) Cell.missing (each_shown l a t) e
        go true e = rw (unlisted k l (cells_by (says_in rs) l) Cell.missing e, rowless rs k (no_row l rs k o e)) (silent refl tt)
