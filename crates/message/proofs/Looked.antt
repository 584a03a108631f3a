-- The cell that is looked up under a key among those of a list: one of a field with that key, and where the list lacks it what was there before. By
-- induction over the list. Assumes nothing.
use mathlib.Core.{Path.◌≡◌, Path.refl, Path.sym, List.List, List.[], List.◌∷◌}
use mathlib.Core.Bool.{Bool, true, false, not, ◌&&◌}
use Prim.Native.Nat.{ℕ}
use Rattle.octets.specs.Choice.{either}
use Rattle.octets.proofs.Ranges.{true_false}
use Rattle.names.specs.Names.{same_bytes}
use Rattle.names.proofs.Same.{same_eq}
use Rattle.field.specs.Cell.{Cell}
use Rattle.message.specs.{Fields.Field, Reading.look_in}
use Rattle.message.proofs.KeyKinds.{lacks}

-- each field of a list has a cell for which something holds
abbrev pub Each : (Field → Cell → Type 0) → List Field → List Cell → Type 0
Each P [] cs = Unit {0}
Each P (f ∷ l) [] = ⊥
Each P (f ∷ l) (c ∷ cs) = P f c × Each P l cs

module _ (k : List ℕ) where
  pub unlisted : (l : List Field) (cs : List Cell) (d : Cell) → lacks l k ≡ true → look_in d l cs k ≡ d
  unfolding look_in
  unlisted [] cs d e = refl
  unlisted (f ∷ l) [] d e = refl
  unlisted (f ∷ l) (c ∷ cs) d e = go (same_bytes f.key k) e (unlisted l cs d)
    where
      go : (b : Bool) → not b && lacks l k ≡ true → (lacks l k ≡ true → look_in d l cs k ≡ d) → look_in (either b (λ _. c) (λ _. d)) l cs k ≡ d
      go true e rest = true_false (sym e)
      go false e rest = rest e

  pub listed : (P : Cell → Type 0) (l : List Field) (cs : List Cell) (d : Cell) → Each (λ f c. f.key ≡ k → P c) l cs → lacks l k ≡ false → P (look_in d l cs k)
  unfolding look_in
  listed P [] cs d h e = true_false e
  listed P (f ∷ l) [] d h e = absurd h
  listed P (f ∷ l) (c ∷ cs) d h e = go (same_bytes f.key k) refl (lacks l k) refl e (λ x. listed P l cs x h.1)
    where
      go : (b : Bool) → same_bytes f.key k ≡ b → (i : Bool) → lacks l k ≡ i → not b && i ≡ false → ((x : Cell) → lacks l k ≡ false → P (look_in x l cs k))
          → P (look_in (either b (λ _. c) (λ _. d)) l cs k)
      go b q false i e rest = rest (either b (λ _. c) (λ _. d)) i
      go true q true i e rest = rw (unlisted l cs c i) (h.0 (same_eq f.key k q))
      go false q true i e rest = true_false e
