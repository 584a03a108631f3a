-- Arrays looked into one level further, for arrays of bytes in them: what an array holds, and what is said of one of at most so many bytes.
-- Each law in the shape of a need of the code. Assumes nothing.
use mathlib.Core.Path.{◌≡◌, refl, sym, ap, ap₂, ◌∙◌}
use mathlib.Core.Bool.{Bool, true, false}
use mathlib.Core.{List.List, Option.Option, Option.some, Option.none}
use Prim.Native.Nat.{ℕ, ◌≤◌, ◌<◌}
use native.Mathlib.Omega.{arith}
use lib.{Dec.leb, Dec.ltb, ListN.length, ListN.get_or}
use borrow.Author.Tests.{le-leb, lt-leb, leb-true, ltb-true, ltb-false}
use Rattle.octets.specs.Choice.{either}
use Rattle.element.specs.declared.Span.{Span, TheVariants.Cut, TheVariants.Ends, TheVariants.Holds}
use Rattle.element.specs.{Lead.class_of, Form.span_of, Meaning.Element, Meaning.Elements, Meaning.Element.null}
use Rattle.std.specs.Prelude.{Option as Answer, Some, None}
use Rattle.field.specs.declared.{Extent.Extent, Piece.Piece}
use Rattle.field.specs.Code.Extent.{parts_in, Lists}
use Rattle.field.specs.Judge.{on_some, parts_of, octets_in, piece_in}
use Rattle.field.specs.Code.At.{shallow_at, leaves_end, nested_end, nested_from, nested_by, nested_at}
use Rattle.field.specs.Code.Item.{naturals_from, octets_from, piece_by, octets_passed, piece_at}
use Rattle.field.proofs.Shallow.{by_shallow, by_nested, shallow_past, leaf_all}
use Rattle.field.proofs.Arrays.{no_parts, length_naturals}

abbrev pub nested_in : List ℕ → Answer Extent → Option Elements
nested_in s None = none
nested_in s (Some e) = some (nested_from s e.size e.from)

-- what it holds, one level further
module _ (s : List ℕ) (at : ℕ) (a : Answer Extent) (y : Lists s at a) where
  -- where there is one, its byte is there
  array_here : (e : Extent) → a ≡ Some e → at < length s
  array_here e t = go (ltb at (length s)) refl
    where
      go : (b : Bool) → ltb at (length s) ≡ b → at < length s
      go true i = ltb-true at (length s) i
      go false i =
          let p = shallow_past s at (ltb-false at (length s) i) in
          let q = y.is in
          absurd (let z : ◌≡◌ {A = ℕ} 0 1 = cc (ap parts_of p, q, ap (parts_in s) t) in omega arith)

  none_nested : a ≡ None → parts_of (nested_at s at) ≡ none
  unfolding nested_at
  none_nested t = go (ltb at (length s)) (span_of s at) refl refl
    where
      none_shallow : parts_of (shallow_at s at) ≡ none
      none_shallow = y.is ∙ ap (parts_in s) t

      go : (b : Bool) (x : Span) → ltb at (length s) ≡ b → span_of s at ≡ x → parts_of (either b (λ _. nested_by s at x) (λ _. null)) ≡ none
      go true Cut e f = refl
      go true (Ends p) e f = leaf_all s at parts_of none refl (λ d. no_parts (class_of (get_or s at 0)) (get_or s at 0) d)
      go true (Holds p n true) e f = refl
      go true (Holds p n false) e f =
          let i = ap parts_of (by_shallow s at (Holds p n false) (ltb-true at (length s) e) f) in
          absurd (let z : ◌≡◌ {A = ℕ} 0 1 = cc (i, none_shallow) in omega arith)
      go false x e f = refl

  pub nested_parts : (o : Answer Extent) → a ≡ o → parts_of (nested_at s at) ≡ nested_in s o
  nested_parts (Some e) t = ap parts_of (by_nested s at (Holds e.from e.size false) (array_here e t) (y.span e t))
  nested_parts None t = none_nested t

  -- one array of at most so many bytes
  module _ (most : ℕ) where
    abbrev at_most : List ℕ → Option (List ℕ)
    at_most d = either (leb (length d) most) (λ _. some d) (λ _. none)

    piece_by_lem : (o : Answer Extent) → a ≡ o → piece_in most (shallow_at s at) ≡ on_some (parts_in s o) (λ es. on_some (octets_in es) at_most)
    piece_by_lem o e = rw (y.is, e)

    pub piece_there : (e : Extent) → a ≡ Some e → e.size ≤ most → (x : Answer Piece) → x ≡ octets_passed s e.size e.from → x ≡ piece_at most s at
    unfolding piece_at octets_passed naturals_from
    piece_there e t h x q =
        q ∙ sym (ap₂ piece_by (piece_by_lem (Some e) t) (ap (nested_end s at) (y.span e t)) ∙ go (octets_from s e.size e.from) refl)
      where
        go : (o : Option (List ℕ)) → octets_from s e.size e.from ≡ o → piece_by (on_some o at_most) (leaves_end s e.size e.from) ≡ piece_by o (leaves_end s e.size e.from)
        go none q = refl
        go (some d) q = simp (le-leb (length d) most (omega (arith, length_naturals 255 s e.size e.from d q)))

    pub piece_long : (e : Extent) → a ≡ Some e → most < e.size → None ≡ piece_at most s at
    unfolding piece_at naturals_from
    piece_long e t h = sym (ap (λ (o : Option (List ℕ)). piece_by o (nested_end s at (span_of s at))) (piece_by_lem (Some e) t ∙ go (octets_from s e.size e.from) refl))
      where
        go : (o : Option (List ℕ)) → octets_from s e.size e.from ≡ o → on_some o at_most ≡ none
        go none q = refl
        go (some d) q = simp (lt-leb (length d) most (omega (arith, length_naturals 255 s e.size e.from d q)))

    pub piece_not : a ≡ None → None ≡ piece_at most s at
    unfolding piece_at
    piece_not t = sym (ap (λ (o : Option (List ℕ)). piece_by o (nested_end s at (span_of s at))) (piece_by_lem None t))

pub ruleset piece_ats = (piece_there, piece_long, piece_not, arith)

-- what an array of bytes is, and so with any bound that it keeps
pub record IsPiece (e : Element) (d : List ℕ) : Type 0 where
  pub parts : Elements
  pub there : parts_of e ≡ some parts
  pub bytes : octets_in parts ≡ some d

pub is_piece : (most : ℕ) (e : Element) (d : List ℕ) → piece_in most e ≡ some d → IsPiece e d × (length d ≤ most)
is_piece most e d = within (parts_of e) refl
  where
    sized : (es : Elements) (c : List ℕ) → parts_of e ≡ some es → octets_in es ≡ some c → (b : Bool) → leb (length c) most ≡ b → either b (λ _. some c) (λ _. none) ≡ some d → IsPiece e d × (length d ≤ most)
    sized es c f g true h q =
        let z : c ≡ d = cc in
        (record { parts = es; there = f; bytes = g ∙ ap some z }, rw z at (leb-true (length c) most h))
    sized es c f g false h q = absurd (let z : ◌≡◌ {A = ℕ} 0 1 = cc in omega arith)

    numbers : (es : Elements) → parts_of e ≡ some es → (o : Option (List ℕ)) → octets_in es ≡ o → on_some o (λ c. either (leb (length c) most) (λ _. some c) (λ _. none)) ≡ some d → IsPiece e d × (length d ≤ most)
    numbers es f none g q = absurd (let z : ◌≡◌ {A = ℕ} 0 1 = cc in omega arith)
    numbers es f (some c) g q = sized es c f g (leb (length c) most) refl q

    within : (o : Option Elements) → parts_of e ≡ o → on_some o (λ es. on_some (octets_in es) (λ c. either (leb (length c) most) (λ _. some c) (λ _. none))) ≡ some d → IsPiece e d × (length d ≤ most)
    within none f q = absurd (let z : ◌≡◌ {A = ℕ} 0 1 = cc in omega arith)
    within (some es) f q = numbers es f (octets_in es) refl q

pub piece_wide : (e : Element) (d : List ℕ) → IsPiece e d → (most : ℕ) → length d ≤ most → piece_in most e ≡ some d
piece_wide e d y most h = simp (y.there, y.bytes, le-leb (length d) most h)

-- what is said of an array
module _ (most : ℕ) (s : List ℕ) (q : ℕ) (x : Answer Piece) (e : x ≡ piece_at most s q) where
  pub piece_is : (p : Piece) → x ≡ Some p → (d : List ℕ) × (piece_in most (shallow_at s q) ≡ some d) × (length d ≡ p.size) × (nested_end s q (span_of s q) ≡ p.next)
  unfolding piece_at
  piece_is p f = go (piece_in most (shallow_at s q)) refl (sym e ∙ f)
    where
      go : (o : Option (List ℕ)) → piece_in most (shallow_at s q) ≡ o → piece_by o (nested_end s q (span_of s q)) ≡ Some p
          → (d : List ℕ) × (piece_in most (shallow_at s q) ≡ some d) × (length d ≡ p.size) × (nested_end s q (span_of s q) ≡ p.next)
      go none i g = absurd (let z : ◌≡◌ {A = ℕ} 0 1 = cc in omega arith)
      go (some d) i g = let z : record { size = length d; next = nested_end s q (span_of s q) } ≡ p = cc in (d, i, ap (λ (y : Piece). y.size) z, ap (λ (y : Piece). y.next) z)

  pub piece_none : x ≡ None → piece_in most (shallow_at s q) ≡ none
  unfolding piece_at
  piece_none f = go (piece_in most (shallow_at s q)) (sym e ∙ f)
    where
      go : (o : Option (List ℕ)) → piece_by o (nested_end s q (span_of s q)) ≡ None → o ≡ none
      go none g = refl
      go (some d) g = absurd (let z : ◌≡◌ {A = ℕ} 0 1 = cc in omega arith)
