-- What the pairs that are written say of each key: for a list whose keys are distinct, each field's cell is that of what the record says of
-- it, and a key of no field has none. By induction over the list, with what was said before it. Assumes nothing.
use mathlib.Core.Path.{◌≡◌, refl, sym, ap, ap₂, ◌∙◌}
use mathlib.Core.Bool.{Bool, true, false, not}
use mathlib.Core.{List.List, List.[], List.◌∷◌, Option.Option, Option.some, Option.none}
use Prim.Native.Nat.{ℕ}
use lib.Dec.{T}
use Rattle.octets.specs.Choice.{either}
use Rattle.octets.proofs.Ranges.{both_left, both_right, is_false, true_false}
use Rattle.element.specs.Meaning.{Element, Fields, meaning_of, meaning_of_pairs}
use Rattle.forms.specs.Shortest.{text_tree}
use Rattle.names.specs.Names.{same_bytes}
use Rattle.names.proofs.Same.{same_refl, same_eq}
use Rattle.field.specs.{Kind.Value, Cell.Said, Cell.Cell, Cell.cell_of}
use Rattle.message.specs.Fields.{Field}
use Rattle.message.specs.Reading.{again, said_from, said_of, cells_of}
use Rattle.message.proofs.KeyKinds.{lacks, apart}
use Rattle.saying.specs.Written.{tree_of, pair_by, pairs_from}

-- the test of bytes, the other way round
other_way : (a b : List ℕ) → same_bytes a b ≡ same_bytes b a
other_way a b = go (same_bytes a b) refl (same_bytes b a) refl
  where
    go : (x : Bool) → same_bytes a b ≡ x → (y : Bool) → same_bytes b a ≡ y → same_bytes a b ≡ same_bytes b a
    go true e y f = ap (λ (u : List ℕ). same_bytes a u) (sym (same_eq a b e)) ∙ ap (λ (u : List ℕ). same_bytes u a) (same_eq a b e)
    go false e true f = true_false (sym (same_refl a) ∙ ap (λ (u : List ℕ). same_bytes a u) (sym (same_eq b a f)) ∙ e)
    go false e false f = e ∙ sym f

-- what is read where a field's value is written
abbrev pub element_for : Field → Value → Element
element_for f v = meaning_of (tree_of f.kind v)

abbrev pub said_by : Field → Option Value → Said
said_by f none = Said.absent
said_by f (some v) = Said.once (element_for f v)

-- a field's cell
abbrev pub cell_by : Field → Option Value → Cell
cell_by f o = cell_of f.kind (said_by f o)

module _ (says : List ℕ → Option Value) where
  abbrev written : List Field → Fields
  written l = meaning_of_pairs (pairs_from l says)

  -- a field more, at another key and at its own
  passed_by : (f : Field) (l : List Field) (k : List ℕ) (x : Said) → same_bytes k f.key ≡ false → said_from k x (written (f ∷ l)) ≡ said_from k x (written l)
  unfolding pairs_from said_from meaning_of text_tree
  passed_by f l k x e = go (says f.key)
    where
      go : (o : Option Value) → said_from k x (meaning_of_pairs (pair_by f o (pairs_from l says))) ≡ said_from k x (written l)
      go none = refl
      go (some v) = rw (said_from, e)

  passed_at : (f : Field) (l : List Field) → said_from f.key Said.absent (written (f ∷ l)) ≡ said_from f.key (said_by f (says f.key)) (written l)
  unfolding pairs_from said_from meaning_of text_tree
  passed_at f l = go (says f.key)
    where
      go : (o : Option Value) → said_from f.key Said.absent (meaning_of_pairs (pair_by f o (pairs_from l says))) ≡ said_from f.key (said_by f o) (written l)
      go none = refl
      go (some v) = rw (said_from, same_refl f.key)

  -- a key that a list lacks is not said by it
  pub unsaid : (l : List Field) (k : List ℕ) (x : Said) → T (lacks l k) → said_from k x (written l) ≡ x
  unfolding pairs_from said_from meaning_of
  unsaid [] k x t = refl
  unsaid (f ∷ l) k x t =
      passed_by f l k x (other_way k f.key ∙ sym (is_false (same_bytes f.key k) (both_left (not (same_bytes f.key k)) (lacks l k) t)))
      ∙ unsaid l k x (both_right (not (same_bytes f.key k)) (lacks l k) t)

  -- the cells of a list
  abbrev pub cells_by : List Field → List Cell
  cells_by [] = []
  cells_by (f ∷ l) = cell_by f (says f.key) ∷ cells_by l

  -- nothing was said before of a list's keys
  abbrev Fresh : (List ℕ → Said) → List Field → Type 0
  Fresh x [] = Unit {0}
  Fresh x (f ∷ l) = (x f.key ≡ Said.absent) × Fresh x l

  abbrev after : Field → Option Value → (List ℕ → Said) → List ℕ → Said
  after f none x k = x k
  after f (some v) x k = either (same_bytes k f.key) (λ _. again (element_for f v) (x k)) (λ _. x k)

  after_is : (f : Field) (l : List Field) (x : List ℕ → Said) (k : List ℕ) → said_from k (x k) (written (f ∷ l)) ≡ said_from k (after f (says f.key) x k) (written l)
  unfolding pairs_from said_from meaning_of text_tree
  after_is f l x k = go (says f.key)
    where
      go : (o : Option Value) → said_from k (x k) (meaning_of_pairs (pair_by f o (pairs_from l says))) ≡ said_from k (after f o x k) (written l)
      go none = refl
      go (some v) = refl

  still_fresh : (f : Field) (o : Option Value) (l : List Field) (x : List ℕ → Said) → T (lacks l f.key) → Fresh x l → Fresh (after f o x) l
  still_fresh f none l x t F = F
  still_fresh f (some v) [] x t F = F
  still_fresh f (some v) (g ∷ l) x t F =
      let e : same_bytes g.key f.key ≡ false = sym (is_false (same_bytes g.key f.key) (both_left (not (same_bytes g.key f.key)) (lacks l f.key) t)) in
      (rw e F.0, still_fresh f (some v) l x (both_right (not (same_bytes g.key f.key)) (lacks l f.key) t) F.1)

  cells_from : (l : List Field) (x : List ℕ → Said) → T (apart l) → Fresh x l → cells_of l (λ k. said_from k (x k) (written l)) ≡ cells_by l
  unfolding cells_of
  cells_from [] x t F = refl
  cells_from (f ∷ l) x t F =
      let b = both_left (lacks l f.key) (apart l) t in
      let o = says f.key in
      ap₂ (λ (c : Cell) (cs : List Cell). c ∷ cs)
      (ap (cell_of f.kind)
      (ap (λ (y : Said). said_from f.key y (written (f ∷ l))) F.0 ∙ passed_at f l ∙ unsaid l f.key (said_by f o) b))
      (ap (cells_of l) (λ i k. after_is f l x k i) ∙ cells_from l (after f o x) (both_right (lacks l f.key) (apart l) t) (still_fresh f o l x b F.1))

  none_said : (l : List Field) → Fresh (λ k. Said.absent) l
  none_said [] = tt
  none_said (f ∷ l) = (refl, none_said l)

  pub cells_said : (l : List Field) → T (apart l) → cells_of l (λ k. said_of k (written l)) ≡ cells_by l
  cells_said l t = cells_from l (λ k. Said.absent) t (none_said l)

  -- the first field's key
  pub said_first : (f : Field) (l : List Field) → T (lacks l f.key) → said_of f.key (written (f ∷ l)) ≡ said_by f (says f.key)
  said_first f l t = passed_at f l ∙ unsaid l f.key (said_by f (says f.key)) t
