-- What `shallow_at` and `nested_at` read where a lawful tree stands: a leaf's meaning, an array's parts as far as they look, a map without its pairs.
-- The head states the span, and the element is read by its span. Assumes nothing.
use mathlib.Core.Path.{◌≡◌, ap, ◌∙◌, subst}
use mathlib.Core.{Bool.false, List.List, List.◌∷◌, List.◌++◌}
use Prim.Native.Nat.{ℕ, ◌+◌}
use native.Mathlib.Omega.{arith}
use lib.{Dec.lit<, ListN.length, ListN.drop, ListN.length-append}
use Rattle.octets.proofs.Places.{after_le}
use Rattle.element.specs.declared.Shape.{Shape, TheVariants.Never, TheVariants.Array, TheVariants.Map}
use Rattle.element.specs.declared.Span.TheVariants.{Ends, Holds}
use Rattle.element.specs.{Lead.head_of, Form.Role, Form.content_of, Form.span_of, Tree.Tree.leaf, Tree.Tree.array, Tree.Tree.map, Meaning.meaning_of}
use Rattle.element.specs.{Meaning.Element.list, Meaning.Element.table, Meaning.Fields.no_field}
use Rattle.element.specs.Tree.{Trees, Pairs, bytes_of, bytes_of_all, bytes_of_pairs, part_count, pair_count, Headed, IsBody, Lawful}
use Rattle.element.proofs.Steps.{suits_value}
use Rattle.element.proofs.Passed.{span_opens, leaf_content, array_never, map_never}
use Rattle.element.proofs.At.{headed, there, behind, behind_le, leaf_at_lem}
use Rattle.field.specs.Code.At.{end_of, leaves_from, shallow_by, shallow_at, nested_from, nested_by, nested_at}
use Rattle.field.proofs.Shallow.{by_shallow, by_nested}

module _ (s : List ℕ) (at b : ℕ) (l d t : List ℕ) (e : drop at s ≡ (b ∷ l ++ d) ++ t) where
  span : (h : Shape) (n : ℕ) → Headed h b l n → (h ≡ Never → ⊥) → span_of s at ≡ content_of h (length s) (at + 1 + length l) n
  span h n H v = span_opens s 1 Role.value at 0 b n l (d ++ t) h H v (suits_value h) (lit< tt) (lit< tt) (headed s at b l d t e)

  read : (h : Shape) (n : ℕ) → Headed h b l n → (h ≡ Never → ⊥) → shallow_at s at ≡ shallow_by s at (content_of h (length s) (at + 1 + length l) n)
  read h n H v = by_shallow s at (content_of h (length s) (at + 1 + length l) n) (there s at b l d t e) (span h n H v)

  read_nested : (h : Shape) (n : ℕ) → Headed h b l n → (h ≡ Never → ⊥) → nested_at s at ≡ nested_by s at (content_of h (length s) (at + 1 + length l) n)
  read_nested h n H v = by_nested s at (content_of h (length s) (at + 1 + length l) n) (there s at b l d t e) (span h n H v)

  body_span : Headed (head_of b).shape b l (length d) → IsBody (head_of b).shape → span_of s at ≡ Ends (at + 1 + length l + length d)
  body_span H i =
      let fits = after_le s (at + 1 + length l) d t (behind s at b l d t e) (behind_le s at b l d t e) in
      span (head_of b).shape (length d) H (λ z. subst IsBody z i)
      ∙ leaf_content (head_of b).shape i (length s) (at + 1 + length l) (length d) (omega arith)

module _ (s : List ℕ) (at b : ℕ) (l t : List ℕ) where
  -- a leaf ends where its bytes do
  pub leaf_end : (d : List ℕ) → Lawful (leaf b l d) → drop at s ≡ bytes_of (leaf b l d) ++ t → end_of at (span_of s at) ≡ at + length (bytes_of (leaf b l d))
  unfolding bytes_of Lawful
  leaf_end d L e = ap (end_of at) (body_span s at b l d t e L.0 L.1) ∙ omega (arith, length-append l d)

  pub leaf_shallow : (d : List ℕ) → Lawful (leaf b l d) → drop at s ≡ bytes_of (leaf b l d) ++ t → shallow_at s at ≡ meaning_of (leaf b l d)
  unfolding bytes_of Lawful
  leaf_shallow d L e =
      by_shallow s at (Ends (at + 1 + length l + length d)) (there s at b l d t e) (body_span s at b l d t e L.0 L.1)
      ∙ leaf_at_lem s at b l t d L e

  pub leaf_nested : (d : List ℕ) → Lawful (leaf b l d) → drop at s ≡ bytes_of (leaf b l d) ++ t → nested_at s at ≡ meaning_of (leaf b l d)
  unfolding bytes_of Lawful
  leaf_nested d L e =
      by_nested s at (Ends (at + 1 + length l + length d)) (there s at b l d t e) (body_span s at b l d t e L.0 L.1)
      ∙ leaf_at_lem s at b l t d L e

  pub array_span : (ts : Trees) → Lawful (array b l ts) → drop at s ≡ bytes_of (array b l ts) ++ t → span_of s at ≡ Holds (at + 1 + length l) (part_count ts) false
  unfolding bytes_of Lawful
  array_span ts L e = span s at b l (bytes_of_all ts) t e Array (part_count ts) L.0 array_never

  pub array_nested : (ts : Trees) → Lawful (array b l ts) → drop at s ≡ bytes_of (array b l ts) ++ t
      → nested_at s at ≡ list (nested_from s (part_count ts) (at + 1 + length l))
  unfolding bytes_of Lawful
  array_nested ts L e = read_nested s at b l (bytes_of_all ts) t e Array (part_count ts) L.0 array_never

  pub array_shallow : (ts : Trees) → Lawful (array b l ts) → drop at s ≡ bytes_of (array b l ts) ++ t
      → shallow_at s at ≡ list (leaves_from s (part_count ts) (at + 1 + length l))
  unfolding bytes_of Lawful
  array_shallow ts L e = read s at b l (bytes_of_all ts) t e Array (part_count ts) L.0 array_never

  -- where the parts begin
  pub array_parts : (ts : Trees) → drop at s ≡ bytes_of (array b l ts) ++ t → drop (at + 1 + length l) s ≡ bytes_of_all ts ++ t
  unfolding bytes_of
  array_parts ts e = behind s at b l (bytes_of_all ts) t e

  pub map_shallow : (ps : Pairs) → Lawful (map b l ps) → drop at s ≡ bytes_of (map b l ps) ++ t → shallow_at s at ≡ table no_field
  unfolding bytes_of Lawful
  map_shallow ps L e = read s at b l (bytes_of_pairs ps) t e Map (pair_count ps) L.0 map_never

  pub map_nested : (ps : Pairs) → Lawful (map b l ps) → drop at s ≡ bytes_of (map b l ps) ++ t → nested_at s at ≡ table no_field
  unfolding bytes_of Lawful
  map_nested ps L e = read_nested s at b l (bytes_of_pairs ps) t e Map (pair_count ps) L.0 map_never
