-- Flags: C2 and C3 are a body of no bytes behind a lead byte of the class bool, and no other byte is of that class, by one computed test.
-- Assumes nothing.
use mathlib.Core.Path.{◌≡◌, refl, sym, ap, ◌∙◌}
use mathlib.Core.Bool.{Bool, true, false, not, ◌||◌}
use mathlib.Core.{List.List, Option.Option, Option.some, Option.none}
use Prim.Native.Nat.{ℕ, ◌+◌, ◌-◌, ◌≤◌, ◌<◌}
use native.Mathlib.Omega.{arith}
use lib.Dec.{T, eqb}
use lib.ListN.{length, get_or, take, drop}
use mir.Syntax.{w8}
use mir.Val.{Fits}
use borrow.Author.Tests.{ne_eqb}
use Rattle.octets.proofs.Ranges.{ranged}
use Rattle.element.specs.declared.Shape.TheVariants.{Plain}
use Rattle.element.specs.declared.Span.TheVariants.{Ends}
use Rattle.element.specs.Lead.{Class, class_of, head_of, lead_bytes, row_in}
use Rattle.element.specs.{Meaning.Element, Meaning.leaf_of, Code.At.leaf_at}
use Rattle.element.proofs.At.{by_span}
use Rattle.walk.proofs.Leads.{row}
use Rattle.std.specs.Prelude.{Option as Answer, Some, None}
use Rattle.field.specs.{Kind.Kind, Kind.Value, Judge.on_some, Judge.truth_of, Judge.judge}
use Rattle.field.specs.{Cell.mark_of, Code.Read.tell, Code.Read.read_at}
use Rattle.field.proofs.{Shallow.leaf_view, Shallow.leaf_all, Shallow.shallow_past, Heads.plain_ends}

abbrev is_bool : Class → Bool
is_bool Class.small = false
is_bool Class.map = false
is_bool Class.array = false
is_bool Class.text = false
is_bool Class.nil = false
is_bool Class.never = false
is_bool Class.bool = true
is_bool Class.bin = false
is_bool Class.ext = false
is_bool Class.float32 = false
is_bool Class.float64 = false
is_bool Class.unsigned = false
is_bool Class.signed = false

no_truth : (c : Class) (b : ℕ) (d : List ℕ) → T (not (is_bool c)) → truth_of (leaf_of c b d) ≡ none
no_truth Class.small b d t = refl
no_truth Class.map b d t = refl
no_truth Class.array b d t = refl
no_truth Class.text b d t = refl
no_truth Class.nil b d t = refl
no_truth Class.never b d t = refl
no_truth Class.bool b d t = absurd t
no_truth Class.bin b d t = refl
no_truth Class.ext b d t = refl
no_truth Class.float32 b d t = refl
no_truth Class.float64 b d t = refl
no_truth Class.unsigned b d t = refl
no_truth Class.signed b d t = refl

-- passes at every byte
other : ℕ → Bool
other b = eqb b 0xC2 || (eqb b 0xC3 || not (is_bool (class_of b)))

no_bool : (b : ℕ) → b < 256 → (b ≡ 0xC2 → ⊥) → (b ≡ 0xC3 → ⊥) → T (not (is_bool (class_of b)))
unfolding other row_in lead_bytes
no_bool b h f g = simp (ne_eqb b 0xC2 f, ne_eqb b 0xC3 g) at (ranged other 0 256 tt b (omega arith) h)

abbrev marked : Option Bool → Answer Bool
marked o = tell mark_of (on_some o (λ b. some (Value.mark b)))

module _ (s : List ℕ) (at : ℕ) where
  by_truth : (o : Option Bool) → truth_of (leaf_at s at) ≡ o → marked o ≡ read_at mark_of Kind.flags s at
  unfolding read_at judge
  by_truth o e = ap marked (sym (leaf_view s at truth_of (λ es. refl) refl ∙ e))

  pub flag_past : length s ≤ at → None ≡ read_at mark_of Kind.flags s at
  unfolding read_at judge tell
  flag_past h = ap (λ (x : Element). marked (truth_of x)) (sym (shallow_past s at h))

  module _ (there : at < length s) where
    flag_by : (b : ℕ) → get_or s at 0 ≡ b → row Plain 0 0 ≡ head_of b → (d : List ℕ) × (truth_of (leaf_at s at) ≡ truth_of (leaf_of (class_of b) b d))
    flag_by b e h =
        let d = take (at + 1 + 0 - (at + 1 + (head_of (get_or s at 0)).wide)) (drop (at + 1 + (head_of (get_or s at 0)).wide) s) in (
          d,
          ap truth_of (by_span s at (Ends (at + 1 + 0)) there (plain_ends s at 0 (omega arith) (h ∙ ap head_of (sym e))))
              ∙ ap (λ (x : ℕ). truth_of (leaf_of (class_of x) x d)) e,
        )

    pub flag_false : get_or s at 0 ≡ 0xC2 → Some false ≡ read_at mark_of Kind.flags s at
    unfolding row_in lead_bytes head_of tell
    flag_false e = by_truth (some false) (flag_by 0xC2 e refl).1

    pub flag_true : get_or s at 0 ≡ 0xC3 → Some true ≡ read_at mark_of Kind.flags s at
    unfolding row_in lead_bytes head_of tell
    flag_true e = by_truth (some true) (flag_by 0xC3 e refl).1

    pub flag_none : ((k : ℕ) → Fits w8 (get_or s k 0)) → (get_or s at 0 ≡ 0xC2 → ⊥) → (get_or s at 0 ≡ 0xC3 → ⊥) → None ≡ read_at mark_of Kind.flags s at
    unfolding tell
    flag_none told f g =
        by_truth none (leaf_all s at truth_of none refl (λ d. no_truth (class_of (get_or s at 0)) (get_or s at 0) d (no_bool (get_or s at 0) (told at).fits f g)))

pub ruleset flags = (flag_past, flag_false, flag_true, flag_none)
