-- What is written for rows that fit a command's list is a payload: at most 15 pairs and 1,024 elements, each key a short text and each value
-- lawful and of at most three levels. By induction over the list. Assumes nothing.
use mathlib.Core.{Path.◌≡◌, Path.refl, Bool.Bool, Bool.true, Bool.◌&&◌, Option.Option, Option.some, Option.none}
use mathlib.Core.List.{List, [], ◌∷◌, ◌++◌}
use Prim.Native.Nat.{ℕ, ◌+◌, ◌≤◌, ◌<◌}
use native.Mathlib.Omega.{arith}
use lib.{Dec.T, Dec.eqb, Dec.ltb, Dec.ltb→lt, ListN.length, ListN.length-append}
use Rattle.octets.specs.Choice.{either}
use Rattle.octets.proofs.Ranges.{both_left, both_right}
use Rattle.element.specs.Tree.{Pairs, Payload, bytes_of, bytes_of_pairs, count_of, count_of_pairs, depth_of, depth_of_pairs, pair_count, Lawful, LawfulPairs}
use Rattle.element.specs.Tree.Pairs.{end}
use Rattle.forms.specs.Shortest.{text_tree, map_tree}
use Rattle.shortest.proofs.Values.{text_lawful, text_shape, text_count, text_depth, text_length_few}
use Rattle.shortest.proofs.Many.{map_size_few, map_count, map_depth, map_length, map_shape, map_lawful}
use Rattle.names.specs.Names.{commands, name_at, downlink}
use Rattle.field.specs.Kind.{Value}
use Rattle.message.specs.Fields.{Field, lists, fields_of}
use Rattle.message.proofs.KeyKinds.{kind_for, agreed, first_agreed, others_agreed, kinds_of, passes}
use Rattle.saying.specs.{Says.Saying, Says.part_in, Fits.said_fits, Written.tree_of, Written.pair_by, Written.pairs_from}
use Rattle.saying.proofs.{Sorts.sorted, Sorts.bounds, Rows.has_row, Rows.says_in, Rows.has_row_lem, Shown.AllFit}
use Rattle.saying.proofs.Words.{name_most, name_most_lem, name_brief, FewWords, word_few, held, field_few}
use Rattle.saying.proofs.Sizes.{value_lawful, value_depth, many_of, value_count, most_of, value_length}

-- pairs of so many bytes, elements and pairs at most
record Few (ps : Pairs) (size all many : ℕ) : Type 0 where
  lawful : LawfulPairs ps
  depth : depth_of_pairs ps ≤ 3
  count : count_of_pairs ps ≤ all
  short : length (bytes_of_pairs ps) ≤ size
  few : pair_count ps ≤ many

no_pairs : Few end 0 0 0
unfolding Lawful depth_of count_of bytes_of pair_count
no_pairs = record { lawful = tt; depth = omega arith; count = omega arith; short = omega arith; few = omega arith }

-- keys are short
abbrev brief_keys : List Field → Bool
brief_keys [] = true
brief_keys (f ∷ l) = ltb (length f.key) 32 && brief_keys l

keys_brief : (c : ℕ) → T (brief_keys (fields_of c))
unfolding lists
keys_brief c = passes brief_keys tt c

module _ (rs : List Saying) where
  -- the most elements, pairs and bytes that a field and a list may take; a word has at most w bytes
  abbrev share : Field → ℕ → ℕ
  share f n = either (has_row rs f.key) (λ _. n) (λ _. 0)

  abbrev pub elements_in : List Field → ℕ
  elements_in [] = 0
  elements_in (f ∷ l) = share f (1 + many_of f.kind) + elements_in l

  abbrev pub pairs_in : List Field → ℕ
  pairs_in [] = 0
  pairs_in (f ∷ l) = share f 1 + pairs_in l

  abbrev most_for : ℕ → Field → ℕ
  most_for w f = length f.key + 1 + most_of w f.kind

  abbrev pub most_in : ℕ → List Field → ℕ
  most_in w [] = 0
  most_in w (f ∷ l) = share f (most_for w f) + most_in w l

  module _ (c : ℕ) (words : FewWords c rs) (w : ℕ) (name : length (name_at commands c) ≤ w) (brief : w < 32) where
    one_more : (f : Field) (o : Option Value) → says_in rs f.key ≡ o → f.kind ≡ kind_for c f.key → length f.key < 32 → T (said_fits f o)
        → (ps : Pairs) (size all many : ℕ) → Few ps size all many
        → Few (pair_by f o ps) (share f (most_for w f) + size) (share f (1 + many_of f.kind) + all) (share f 1 + many)
    unfolding Lawful depth_of count_of bytes_of pair_count
    one_more f none e a h t ps size all many F =
        record { lawful = F.lawful; depth = F.depth; count = omega (arith, F.count); short = omega (arith, F.short); few = omega (arith, F.few) }
    one_more f (some v) e a h t ps size all many F =
        let k = f.kind in
        let S = sorted k v t in
        let n = field_few c rs words f v a e t in
        let H = held c rs words f v a e t in
        let B = bounds k v t in
        let key = text_tree f.key in
        let value = tree_of k v in
        rw (has_row_lem rs f.key v e)
        (record {
          lawful = (text_shape f.key (omega arith), text_lawful f.key (omega arith), value_lawful S H B (omega arith), F.lawful);
          depth = omega (arith, text_depth f.key, value_depth S, F.depth);
          count = omega (arith, text_count f.key, value_count S H B, F.count);
          short =
              omega (
                arith,
                length-append (bytes_of key) (bytes_of value),
                length-append (bytes_of key ++ bytes_of value) (bytes_of_pairs ps),
                text_length_few f.key h,
                value_length w brief S H B (omega arith) (λ u. omega (arith, word_few c rs words f v a e u, name)),
                F.short,
              );
          few = omega (arith, F.few);
        })

    all_few : (l : List Field) → T (agreed c l) → T (brief_keys l) → AllFit rs l → Few (pairs_from l (says_in rs)) (most_in w l) (elements_in l) (pairs_in l)
    unfolding pairs_from
    all_few [] a b t = no_pairs
    all_few (f ∷ l) a b t =
        let p = part_in rs f.key in
        one_more f (says_in rs f.key) refl
        (first_agreed c f l a)
        (ltb→lt (length f.key) 32 (both_left (ltb (length f.key) 32) (brief_keys l) b))
        (both_right p.clean (said_fits f p.said) t.0)
        (pairs_from l (says_in rs)) (most_in w l) (elements_in l) (pairs_in l)
        (all_few l (others_agreed c f l a) (both_right (ltb (length f.key) 32) (brief_keys l) b) t.1)

-- rows that fit a command's list and have room in a payload of n bytes
pub record Roomy (rs : List Saying) (c n : ℕ) : Type 0 where
  pub words : FewWords c rs
  pub fit : AllFit rs (fields_of c)
  pub size : n ≤ 4096
  pub bytes : most_in rs (name_most (eqb c downlink)) (fields_of c) < n
  pub elements : elements_in rs (fields_of c) ≤ 1023
  pub pairs : pairs_in rs (fields_of c) ≤ 15

module _ (rs : List Saying) (c n : ℕ) (r : Roomy rs c n) where
  abbrev own : Pairs
  own = pairs_from (fields_of c) (says_in rs)

  own_few : Few own (most_in rs (name_most (eqb c downlink)) (fields_of c)) (elements_in rs (fields_of c)) (pairs_in rs (fields_of c))
  own_few = all_few rs c r.words (name_most (eqb c downlink)) (name_most_lem c) (name_brief (eqb c downlink)) (fields_of c) (kinds_of c) (keys_brief c) r.fit

  pub few_pairs : pair_count (pairs_from (fields_of c) (says_in rs)) ≤ 15
  few_pairs = omega (arith, own_few.few, r.pairs)

  pub some_bytes : 0 < length (bytes_of (map_tree (pairs_from (fields_of c) (says_in rs))))
  some_bytes = omega (arith, map_length own)

  pub few_bytes : length (bytes_of (map_tree (pairs_from (fields_of c) (says_in rs)))) ≤ n
  few_bytes =
      let few = few_pairs in
      omega (arith, map_length own, map_size_few (pair_count own) (omega arith), own_few.short, r.bytes)

  pub is_payload : Payload (bytes_of (map_tree (pairs_from (fields_of c) (says_in rs)))) (map_tree (pairs_from (fields_of c) (says_in rs)))
  is_payload =
      let few = few_pairs in
      record {
        lawful = map_lawful own (omega arith) own_few.lawful;
        outer = map_shape own (omega arith);
        depth = omega (arith, map_depth own, own_few.depth);
        count = omega (arith, map_count own, own_few.count, r.elements);
        short = omega (arith, few_bytes, r.size);
        bytes = refl;
      }
