-- What is written says its command's name: each list begins with the command's own field, a text. Over anything that says the name. Assumes nothing.
use mathlib.Core.Path.{◌≡◌, sym, ap, ◌∙◌}
use mathlib.Core.{Bool.Bool, Bool.false, Bool.◌&&◌, List.List, List.[], List.◌∷◌, Option.Option, Option.some}
use Prim.Native.Nat.{ℕ}
use native.Mathlib.Omega.{arith}
use lib.Dec.{T}
use Rattle.octets.proofs.Ranges.{both_left, both_right, is_true}
use Rattle.element.specs.{Meaning.meaning_of, Meaning.meaning_of_pairs, Meaning.Element.text}
use Rattle.shortest.proofs.Values.{text_means}
use Rattle.names.specs.Names.{bytes, same_bytes, name_at, commands}
use Rattle.names.proofs.Same.{same_eq}
use Rattle.field.specs.{Kind.Kind, Kind.Value, Cell.Said}
use Rattle.message.specs.{Fields.Field, Fields.lists, Fields.fields_of, Reading.said_of}
use Rattle.message.proofs.KeyKinds.{passes, lacks, apart, keys_apart, same_kind, same_kind_lem}
use Rattle.saying.specs.Written.{tree_of, pairs_from}
use Rattle.saying.proofs.{Sayings.said_by, Sayings.said_first, Words.name_few}

abbrev is_first : List Field → Bool
is_first [] = false
is_first (f ∷ l) = same_bytes f.key (bytes "command") && same_kind Kind.words f.kind

begins : (c : ℕ) → T (is_first (fields_of c))
unfolding lists
begins c = passes is_first tt c

means_name : (c : ℕ) → meaning_of (tree_of Kind.words (Value.string (name_at commands c))) ≡ text (name_at commands c)
unfolding tree_of
means_name c = let n = name_few c in text_means (name_at commands c) (omega arith)

module _ (says : List ℕ → Option Value) (c : ℕ) (named : says (bytes "command") ≡ some (Value.string (name_at commands c))) where
  first_said : (f : Field) → f.key ≡ bytes "command" → f.kind ≡ Kind.words → said_by f (says f.key) ≡ Said.once (text (name_at commands c))
  first_said f k n =
      ap (said_by f) (ap says k ∙ named)
      ∙ ap (λ (j : Kind). Said.once (meaning_of (tree_of j (Value.string (name_at commands c))))) n
      ∙ ap Said.once (means_name c)

  said_in : (l : List Field) → T (is_first l) → T (apart l) → said_of (bytes "command") (meaning_of_pairs (pairs_from l says)) ≡ Said.once (text (name_at commands c))
  said_in [] t a = absurd t
  said_in (f ∷ l) t a =
      let k = same_eq f.key (bytes "command") (sym (is_true (same_bytes f.key (bytes "command")) (both_left (same_bytes f.key (bytes "command")) (same_kind Kind.words f.kind) t))) in
      let n = sym (same_kind_lem Kind.words f.kind (both_right (same_bytes f.key (bytes "command")) (same_kind Kind.words f.kind) t)) in
      rw (← k) (said_first says f l (both_left (lacks l f.key) (apart l) a) ∙ first_said f k n)

  pub command_said_lem : said_of (bytes "command") (meaning_of_pairs (pairs_from (fields_of c) says)) ≡ Said.once (text (name_at commands c))
  command_said_lem = said_in (fields_of c) (begins c) (keys_apart c)
