-- Parts that are what the cells of a command without a fault make fit the fields of its list. Over any rows, where each mandatory field has one. By
-- induction over the list. Assumes nothing.
use mathlib.Core.Path.{◌≡◌, refl, sym, subst, ◌∙◌}
use mathlib.Core.Bool.{Bool, true, false, not, ◌&&◌, ◌||◌, and-false}
use mathlib.Core.{List.List, List.[], List.◌∷◌, Option.Option, Option.some, Option.none}
use Prim.Native.Nat.{ℕ}
use native.Mathlib.Omega.{arith}
use lib.Dec.{T}
use lib.Ieee.Fits.{and_i}
use Rattle.octets.specs.Choice.{either}
use Rattle.octets.proofs.Ranges.{both_left, both_right, is_false, true_false}
use Rattle.names.specs.Names.{bytes, same_bytes}
use Rattle.names.proofs.Same.{same_refl, same_eq}
use Rattle.field.specs.{Kind.Kind, Kind.Value, Judge.on_some, Judge.text_of, Judge.judge}
use Rattle.field.specs.Cell.{Said, Cell, cell_of, here}
use Rattle.field.specs.Cell as Cells
use Rattle.message.specs.{Fields.Field, Fields.lists, Fields.downlink_fields, Fields.fields_of, Reading.cell_fault, Reading.command_said}
use Rattle.message.proofs.KeyKinds.{passes, kind_for, command_kind, agreed, first_agreed, others_agreed, kinds_of, lacks}
use Rattle.saying.specs.Says.{Part, Saying, string, part_in}
use Rattle.saying.specs.Fits.{within, said_fits, field_fits}
use Rattle.saying.proofs.{Rows.has_row, Rows.rowless, Made.is_said, Made.is_made, Shown.AllFit}
use Rattle.saying.proofs.Found.{cell_at, cell_for, AllSound, own_cell, found, found_own}

-- mandatory in a list, and in that of some command
abbrev pub needed_in : List Field → List ℕ → Bool
needed_in [] u = false
needed_in (f ∷ l) u = f.must && same_bytes f.key u || needed_in l u

abbrev needed_among : List (List Field) → List ℕ → Bool
needed_among [] u = false
needed_among (l ∷ ls) u = needed_in l u || needed_among ls u

unfoldable pub is_needed : List ℕ → Bool
is_needed u = needed_among (downlink_fields ∷ lists) u

-- a mandatory field has a row
abbrev pub are_kept : List Saying → List Field → Bool
are_kept rs [] = true
are_kept rs (f ∷ l) = (not f.must || (is_needed f.key && has_row rs f.key)) && are_kept rs l

has_command : (c : ℕ) → lacks (fields_of c) (bytes "command") ≡ false
unfolding lists
has_command c = sym (is_false (lacks (fields_of c) (bytes "command")) (passes (λ l. not (lacks l (bytes "command"))) tt c))

-- a chain of facts
infixr 20 ◌and◌
pub ◌and◌ : {A B : Type 0} → A → B → A × B
a and b = (a, b)

-- a field that may be absent, or a part that says something
says_fits : (b : Bool) (f : Field) (o : Option Value) → (T b → T (not f.must)) → T (is_said b f.kind o) → T (said_fits f o)
says_fits b f none may t = may t
says_fits b f (some v) may t = t

made_fits : (needed : Bool) (f : Field) (p : Part) → T (not f.must || needed) → (c : Cell) → cell_fault f.must c ≡ 0
    → T (is_made needed f.kind c p) → T (field_fits f p)
made_fits needed f p n Cell.missing e t =
    let k = f.kind in
    and_i p.clean (said_fits f p.said) (both_left p.clean (is_said true k p.said) t)
    (says_fits true f p.said (λ _. go f.must e) (both_right p.clean (is_said true k p.said) t))
  where
    go : (b : Bool) → cell_fault b Cell.missing ≡ 0 → T (not b)
    go true e = absurd (omega arith)
    go false e = tt
made_fits needed f p n Cell.double e t = absurd t
made_fits needed f p n Cell.bad e t = absurd t
made_fits needed f p n (Cell.good v) e t =
    let k = f.kind in
    and_i p.clean (said_fits f p.said) (both_left p.clean (is_said (not needed) k p.said) t)
    (says_fits (not needed) f p.said (go f.must needed n) (both_right p.clean (is_said (not needed) k p.said) t))
  where
    go : (a b : Bool) → T (not a || b) → T (not b) → T (not a)
    go true true n t = t
    go true false n t = n
    go false b n t = tt

-- a field of no row
no_part : (f : Field) (rs : List Saying) → T (not f.must) → has_row rs f.key ≡ false → T (field_fits f (part_in rs f.key))
no_part f rs t e = rw (rowless rs f.key e) t

-- the command's own field is always there
named_made : (n : List ℕ) (x : Said) → command_said x ≡ some n → (b : Bool) (d : List ℕ) → T (is_made b Kind.words (cell_of Kind.words x) (string d))
unfolding judge within
named_made n Said.absent e b d = let z : ◌≡◌ {A = ℕ} 0 1 = cc in absurd (omega arith)
named_made n (Said.once e) q b d = go (text_of e) q
  where
    go : (o : Option (List ℕ)) → o ≡ some n
        → T (is_made b Kind.words (Cells.judged (on_some o (λ d. some Value.nothing))) (string d))
    go none q = let z : ◌≡◌ {A = ℕ} 0 1 = cc in absurd (omega arith)
    go (some x) q = tt
named_made n Said.twice e b d = let z : ◌≡◌ {A = ℕ} 0 1 = cc in absurd (omega arith)

-- each part of the rows is what its key's cell makes
abbrev pub IsMade : ℕ → (List ℕ → Cell) → List ℕ → Part → Type 0
IsMade c look u p = T (is_made (is_needed u) (kind_for c u) (look u) p)

abbrev pub AllMade : ℕ → (List ℕ → Cell) → List Saying → Type 0
AllMade c look [] = Unit {0}
AllMade c look (r ∷ rs) = IsMade c look r.key r.part × AllMade c look rs

part_made : (c : ℕ) (look : List ℕ → Cell) (u : List ℕ) (rs : List Saying) → AllMade c look rs → has_row rs u ≡ true → IsMade c look u (part_in rs u)
unfolding part_in
part_made c look u [] a e = true_false (sym e)
part_made c look u (r ∷ rs) a e = go (same_bytes r.key u) refl e (part_made c look u rs a.1)
  where
    go : (b : Bool) → same_bytes r.key u ≡ b → b || has_row rs u ≡ true → (has_row rs u ≡ true → IsMade c look u (part_in rs u))
        → IsMade c look u (either b (λ _. r.part) (λ _. part_in rs u))
    go true q e rest = subst (λ (v : List ℕ). IsMade c look v r.part) (same_eq r.key u q) a.0
    go false q e rest = rest e

-- a reading without a fault
module _ (said : List ℕ → Said) (c : ℕ) (s : AllSound said (fields_of c)) where
  abbrev own : List Field
  own = fields_of c

  abbrev look : List ℕ → Cell
  look u = found said c u

  pub command_made : (n d : List ℕ) → command_said (said (bytes "command")) ≡ some n → IsMade c (found said c) (bytes "command") (string d)
  command_made n d named =
      rw (found_own said (bytes "command") c (has_command c), command_kind c)
      (named_made n (said (bytes "command")) named (is_needed (bytes "command")) d)

  -- what the command must have is there
  needed_there : (u : List ℕ) (l : List Field) → T (agreed c l) → AllSound said l → T (needed_in l u) → (lacks l u ≡ false) × T (here (cell_for said c u))
  needed_there u [] g z t = absurd t
  needed_there u (f ∷ l) g z t = go f.must (same_bytes f.key u) refl z.0 t (needed_there u l (others_agreed c f l g) z.1)
    where
      sound_there : (x : Cell) → cell_fault true x ≡ 0 → T (here x)
      sound_there Cell.missing e = absurd (omega arith)
      sound_there Cell.double e = absurd (omega arith)
      sound_there Cell.bad e = absurd (omega arith)
      sound_there (Cell.good v) e = tt

      go : (must same : Bool) → same_bytes f.key u ≡ same → cell_fault must (cell_at said f) ≡ 0 → T (must && same || needed_in l u)
          → (T (needed_in l u) → (lacks l u ≡ false) × T (here (cell_for said c u))) → (not same && lacks l u ≡ false) × T (here (cell_for said c u))
      go true true q e t rest = (refl, subst (λ (x : Cell). T (here x)) (own_cell said c f l u g (same_eq f.key u q)) (sound_there (cell_at said f) e))
      go true false q e t rest = rest t
      go false true q e t rest = (refl, (rest t).1)
      go false false q e t rest = rest t

  pub there : (u : List ℕ) → T (needed_in (fields_of c) u) → T (here (found said c u))
  there u t =
      let n = needed_there u own (kinds_of c) s t in
      rw (found_own said u c n.0) n.1

  module _ (rows : List Saying) (a : AllMade c (found said c) rows) where
    field_fits_lem : (f : Field) (l : List Field) → T (agreed c (f ∷ l)) → cell_fault f.must (cell_at said f) ≡ 0 → T (are_kept rows (f ∷ l)) → lacks own f.key ≡ false
        → T (field_fits f (part_in rows f.key))
    field_fits_lem f l g z k i = go (has_row rows f.key) refl (both_left (not f.must || (is_needed f.key && has_row rows f.key)) (are_kept rows l) k)
      where
        needed : (b n h : Bool) → T (not b || (n && h)) → T (not b || n)
        needed true n h t = both_left n h t
        needed false n h t = tt

        unneeded : (b n : Bool) → T (not b || (n && false)) → T (not b)
        unneeded true n t = both_right n false t
        unneeded false n t = tt

        go : (h : Bool) → has_row rows f.key ≡ h → T (not f.must || (is_needed f.key && h)) → T (field_fits f (part_in rows f.key))
        go true e t =
            let p = part_in rows f.key in
            let x : look f.key ≡ cell_at said f = found_own said f.key c i ∙ sym (own_cell said c f l f.key g refl) in
            let y : T (is_made (is_needed f.key) f.kind (look f.key) p) =
            subst (λ (k : Kind). T (is_made (is_needed f.key) k (look f.key) p)) (sym (first_agreed c f l g)) (part_made c look f.key rows a e) in
            made_fits (is_needed f.key) f p (needed f.must (is_needed f.key) true t) (cell_at said f) z
            (subst (λ (d : Cell). T (is_made (is_needed f.key) f.kind d p)) x y)
        go false e t = no_part f rows (unneeded f.must (is_needed f.key) t) e

    each_fit : (l : List Field) → T (agreed c l) → AllSound said l → T (are_kept rows l) → ((u : List ℕ) → lacks l u ≡ false → lacks own u ≡ false) → AllFit rows l
    each_fit [] g z k i = tt
    each_fit (f ∷ l) g z k i = (
      field_fits_lem f l g z.0 k (i f.key (rw same_refl)),
      each_fit l (others_agreed c f l g) z.1 (both_right (not f.must || (is_needed f.key && has_row rows f.key)) (are_kept rows l) k)
          (λ u e. i u (rw e (and-false (not (same_bytes f.key u))))),
    )

    pub made_fit : T (are_kept rows (fields_of c)) → AllFit rows (fields_of c)
    made_fit k = each_fit own (kinds_of c) s k (λ u e. e)
