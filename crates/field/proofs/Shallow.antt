-- What stands at a place, as far as a kind looks: a view that arrays, maps and null do not have sees the leaf alone,
-- and what it sees of a leaf is what it sees of the lead byte's class. Assumes nothing.
use mathlib.Core.Path.{◌≡◌, refl, sym, ap, ◌∙◌}
use mathlib.Core.{Bool.Bool, Bool.true, Bool.false, List.List}
use Prim.Native.Nat.{ℕ, ◌≤◌, ◌<◌}
use lib.{Dec.ltb, ListN.length, ListN.get_or}
use borrow.Author.Tests.{lt-ltb, le-ltb, ltb-true, ltb-false}
use Rattle.octets.specs.Choice.{either}
use Rattle.element.specs.declared.Span.{Span, TheVariants.Cut, TheVariants.Ends, TheVariants.Holds}
use Rattle.element.specs.{Lead.class_of, Form.span_of, Meaning.Element, Meaning.Elements, Meaning.leaf_of}
use Rattle.element.specs.{Meaning.Element.null, Meaning.Element.list, Meaning.Element.table, Meaning.Fields.no_field, Code.At.leaf_to, Code.At.leaf_at}
use Rattle.element.proofs.At.{by_span}
use Rattle.field.specs.Code.At.{shallow_by, shallow_at, nested_by, nested_at}

module _ (s : List ℕ) (at : ℕ) where
  -- an element whose byte is there is read by its span
  pub by_shallow : (x : Span) → at < length s → span_of s at ≡ x → shallow_at s at ≡ shallow_by s at x
  unfolding shallow_at
  by_shallow x h e = simp (lt-ltb at (length s) h, e)

  pub by_nested : (x : Span) → at < length s → span_of s at ≡ x → nested_at s at ≡ nested_by s at x
  unfolding nested_at
  by_nested x h e = simp (lt-ltb at (length s) h, e)

  pub shallow_past : length s ≤ at → shallow_at s at ≡ null
  unfolding shallow_at
  shallow_past h = simp (le-ltb at (length s) h)

  pub leaf_past : length s ≤ at → leaf_at s at ≡ null
  unfolding leaf_at
  leaf_past h = simp (le-ltb at (length s) h)

  -- a view without arrays and maps
  pub leaf_view : {A : Type 0} (f : Element → A) → ((es : Elements) → f (list es) ≡ f null) → f (table no_field) ≡ f null → f (shallow_at s at) ≡ f (leaf_at s at)
  unfolding shallow_at
  leaf_view {A} f lists tables = go (ltb at (length s)) (span_of s at) refl refl
    where
      go : (t : Bool) (x : Span) → ltb at (length s) ≡ t → span_of s at ≡ x → f (either t (λ _. shallow_by s at x) (λ _. null)) ≡ f (leaf_at s at)
      go true Cut e y = sym (ap f (by_span s at Cut (ltb-true at (length s) e) y))
      go true (Ends p) e y = refl
      go true (Holds p n true) e y = tables ∙ sym (ap f (by_span s at (Holds p n true) (ltb-true at (length s) e) y))
      go true (Holds p n false) e y = lists _ ∙ sym (ap f (by_span s at (Holds p n false) (ltb-true at (length s) e) y))
      go false x e y = sym (ap f (leaf_past (ltb-false at (length s) e)))

  -- a view that sees null and every leaf of this class alike
  pub leaf_all : {A : Type 0} (f : Element → A) (x : A) → f null ≡ x → ((d : List ℕ) → f (leaf_of (class_of (get_or s at 0)) (get_or s at 0) d) ≡ x) → f (leaf_at s at) ≡ x
  unfolding leaf_at
  leaf_all {A} f x nulls leaves = go (ltb at (length s)) (span_of s at)
    where
      go : (t : Bool) (y : Span) → f (either t (λ _. leaf_to s at y) (λ _. null)) ≡ x
      go true Cut = nulls
      go true (Ends p) = leaves _
      go true (Holds p n keyed) = nulls
      go false y = nulls

  pub shallow_cut : span_of s at ≡ Cut → shallow_at s at ≡ null
  unfolding shallow_at
  shallow_cut e = rw e (go (ltb at (length s)))
    where
      go : (t : Bool) → either t (λ _. null) (λ _. null) ≡ null
      go true = refl
      go false = refl
