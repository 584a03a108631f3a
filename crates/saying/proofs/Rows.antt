-- What rows say of a key: what the row that has it says, and nothing where none has it. By induction over the rows. Assumes nothing.
use mathlib.Core.Path.{◌≡◌, refl, sym, ap, ◌∙◌}
use mathlib.Core.Bool.{Bool, true, false, ◌||◌}
use mathlib.Core.{List.List, List.[], List.◌∷◌, Option.Option, Option.some}
use Prim.Native.Nat.{ℕ}
use Rattle.octets.specs.Choice.{either}
use Rattle.octets.proofs.Ranges.{true_false}
use Rattle.octets.proofs.Truth.{none_some}
use Rattle.names.specs.Names.{same_bytes}
use Rattle.field.specs.Kind.{Value}
use Rattle.saying.specs.Says.{Part, Saying, no_part, part_in}

-- a key of one of the rows, and what they say of a key
abbrev pub has_row : List Saying → List ℕ → Bool
has_row [] k = false
has_row (r ∷ rs) k = same_bytes r.key k || has_row rs k

abbrev pub says_in : List Saying → List ℕ → Option Value
says_in rs k = (part_in rs k).said

pub rowless : (rs : List Saying) (k : List ℕ) → has_row rs k ≡ false → part_in rs k ≡ no_part
unfolding part_in
rowless [] k e = refl
rowless (r ∷ rs) k e = go (same_bytes r.key k) e (rowless rs k)
  where
    go : (b : Bool) → b || has_row rs k ≡ false → (has_row rs k ≡ false → part_in rs k ≡ no_part) → either b (λ _. r.part) (λ _. part_in rs k) ≡ no_part
    go true e rest = true_false e
    go false e rest = rest e

pub has_row_lem : (rs : List Saying) (k : List ℕ) (v : Value) → says_in rs k ≡ some v → has_row rs k ≡ true
has_row_lem rs k v e = go (has_row rs k) refl
  where
    go : (b : Bool) → has_row rs k ≡ b → has_row rs k ≡ true
    go true q = q
    go false q = none_some (sym (ap (λ (p : Part). p.said) (rowless rs k q)) ∙ e)
