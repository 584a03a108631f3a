-- The outer element is a map, and a map is the same element outermost as inside; around it stand the tests of the payload's length.
-- Assumes nothing.
use mathlib.Core.Path.{◌≡◌, refl, sym, ap, ◌∙◌}
use mathlib.Core.Bool.{Bool, true, false, not}
use mathlib.Core.List.{List}
use Prim.Native.Nat.{ℕ, ◌+◌, ◌-◌, ◌≤◌, ◌<◌}
use native.Mathlib.Nat.{add-zero}
use native.Mathlib.Omega.{arith}
use lib.{Dec.lit<, ListN.length, ListN.get_or}
use borrow.Author.Tests.{lt-ltb, le-ltb, le-leb, lt-leb, eq-eqb, ne_eqb, not-true, not-false}
use Rattle.std.specs.Prelude.{None, Ok, Err}
use Rattle.refusal.specs.declared.{Broken.Broken, Refusal.TheVariants.NeverUsed, Refusal.TheVariants.OuterNotMap, Refusal.TheVariants.Size, Refusal.TheVariants.LeftOver}
use Rattle.octets.specs.{Number.big_at, Size.is_size}
use Rattle.octets.proofs.Sizes.{sized_some}
use Rattle.element.specs.declared.{Next.Next, Span.TheVariants.Holds}
use Rattle.element.specs.{Lead.head_of, Code.Items.items_of}
use Rattle.element.specs.Form.{Role, Step, broken, is_map, fault_of, span_of, element_of, walk_of}
use Rattle.element.proofs.Steps.{Suits, none_fault, element_span, element_fault, suits_value}
use Rattle.walk.proofs.{Leads.says_fixmap, Leads.map_fix, Elements.element_holds}

module _ (s : List ℕ) (h : 0 < length s) where
  pub outer_never : get_or s 0 0 ≡ 0xC1 → broken NeverUsed 0 ≡ element_of s 8 Role.outer 0 0
  unfolding fault_of
  outer_never e = element_fault s 8 Role.outer 0 0 NeverUsed (sym (simp (lt-leb (length s) 0 h, eq-eqb (get_or s 0 0) 0xC1 e)))

  module _ (e : get_or s 0 0 ≡ 0xC1 → ⊥) (m : Bool) (f : m ≡ is_map (head_of (get_or s 0 0)).shape) where
    pub outer_other : m ≡ false → broken OuterNotMap 0 ≡ element_of s 8 Role.outer 0 0
    unfolding fault_of
    outer_other k = element_fault s 8 Role.outer 0 0 OuterNotMap (sym (simp (lt-leb (length s) 0 h, ne_eqb (get_or s 0 0) 0xC1 e, ← f, k)))

    sound : (role : Role) → Suits role (head_of (get_or s 0 0)).shape → fault_of s 8 role 0 0 ≡ None
    sound role k = none_fault s 8 role 0 0 (record { there = h; used = e; few = lit< tt; deep = lit< tt; suits = k })

    outer_sound : m ≡ true → fault_of s 8 Role.outer 0 0 ≡ None
    outer_sound k = sound Role.outer (record { as_outer = ap not (sym f ∙ k); as_key = refl })

    pub outer_map : m ≡ true → (r : Step) → r ≡ element_of s 8 Role.value 0 0 → r ≡ element_of s 8 Role.outer 0 0
    outer_map k r q =
        q ∙ element_span s 8 Role.value 0 0 (sound Role.value (suits_value (head_of (get_or s 0 0)).shape))
        ∙ sym (element_span s 8 Role.outer 0 0 (outer_sound k))

  pub outer_fixmap : (r : Step) → 0x80 ≤ get_or s 0 0 → get_or s 0 0 < 0x90 → r ≡ items_of s 7 true (get_or s 0 0 - 0x80) 1 1 → r ≡ element_of s 8 Role.outer 0 0
  unfolding span_of big_at
  outer_fixmap r g l q =
      element_holds s 8 Role.outer 0 0 None (sym (outer_sound (λ z. omega arith) true (map_fix (get_or s 0 0) g l) refl)) refl (span_of s 0) refl 1 (get_or s 0 0 - 0x80) true true r span refl q
    where
      span : span_of s 0 ≡ Holds 1 (get_or s 0 0 - 0x80) true
      span = rw (← (says_fixmap (get_or s 0 0) g l).is) (simp (le-leb (0 + 1 + 0) (length s) (omega arith), add-zero))

pub ruleset outers = (outer_never, outer_other, outer_map, outer_fixmap)

-- the payload
module _ (s : List ℕ) where
  module _ (b : Bool) (e : b ≡ is_size (length s)) where
    pub walk_missized : not b ≡ true → broken Size 0 ≡ walk_of s
    unfolding walk_of
    walk_missized f = simp (← e, not-true b f)

    module _ (f : not b ≡ false) where
      pub walk_some : 0 < length s
      walk_some = sized_some (length s) (sym e ∙ not-false b f)

      module _ (r : Step) (q : r ≡ element_of s 8 Role.outer 0 0) where
        pub walk_broken : (x : Broken) → r ≡ Err x → Err x ≡ walk_of s
        unfolding walk_of
        walk_broken x n = simp (← e, not-false b f, ← q, n)

        pub walk_left : (x : Next) → r ≡ Ok x → x.at < length s → broken LeftOver x.at ≡ walk_of s
        unfolding walk_of
        walk_left x n l = simp (← e, not-false b f, ← q, n, lt-ltb _ _ l)

        pub walk_whole : (x : Next) → r ≡ Ok x → length s ≤ x.at → Ok x.count ≡ walk_of s
        unfolding walk_of
        walk_whole x n l = simp (← e, not-false b f, ← q, n, le-ltb _ _ l)

pub ruleset walks = (walk_missized, walk_some, walk_broken, walk_left, walk_whole)
