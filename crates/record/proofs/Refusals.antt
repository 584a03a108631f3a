-- No reading is refused with the number 0: no refusal has it; and what a payload that breaks a rule of form means, by the walk's numbers. Assumes nothing.
use mathlib.Core.Path.{◌≡◌, refl, sym, ap, ◌∙◌}
use mathlib.Core.List.{List}
use Prim.Native.Nat.{ℕ, ◌≤◌, ◌<◌}
use native.Mathlib.Omega.{arith}
use lib.ListN.{length}
use Rattle.std.specs.Prelude.{Ok, Err}
use Rattle.refusal.specs.{Number.number_of, declared.Refusal.Refusal}
use Rattle.refusal.proofs.Numbers.{number_some}
use Rattle.element.specs.{Form.Walked, Form.walk_of, Form.walk_refusal, Form.walk_place, Meaning.Fields}
use Rattle.record.specs.Reading.{Reading, reading_of}
use Rattle.record.specs.Meant.{Answered, Meant, breaks, lent_size, refusal_told, place_told}

pub reading_number : (fs : Fields) (r : Refusal) → reading_of fs ≡ Reading.refused r → 0 < number_of r
reading_number fs r e = let h = number_some r in omega arith

pub broken_numbers : (s d : List ℕ) (r : Answered) → Meant s d r → lent_size ≤ length d → (walk_refusal (walk_of s) ≡ 0 → ⊥)
    → (refusal_told r.told ≡ walk_refusal (walk_of s)) × (place_told r.told ≡ walk_place (walk_of s)) × (r.lent ≡ d)
broken_numbers s d r m h n = go (walk_of s) refl
  where
    go : (w : Walked) → walk_of s ≡ w → (refusal_told r.told ≡ walk_refusal (walk_of s)) × (place_told r.told ≡ walk_place (walk_of s)) × (r.lent ≡ d)
    go (Ok c) e = absurd (n (ap walk_refusal e))
    go (Err b) e =
        let q : r ≡ breaks b d = m.broken h b e in
        (ap (λ (x : Answered). refusal_told x.told) q ∙ sym (ap walk_refusal e), ap (λ (x : Answered). place_told x.told) q ∙ sym (ap walk_place e), ap (λ (x : Answered). x.lent) q)
