-- What any kind makes of the element at a place where a lawful tree stands is what it makes of the tree's meaning.
-- An array's parts are read as leaves: a part that is a leaf is its meaning and the next stands behind it; a part that is not is
-- no number on either side, so what follows it does not matter. An array of arrays goes one level further. Assumes nothing.
use mathlib.Core.Path.{◌≡◌, refl, sym, ap, ◌∙◌}
use mathlib.Core.List.{List, [], ◌∷◌, ◌++◌}
use mathlib.Core.{Bool.Bool, Bool.true, Bool.false, Option.Option, Option.some, Option.none}
use Prim.Native.Nat.{ℕ, zero, suc, ◌+◌, ◌≤◌}
use native.Mathlib.Omega.{arith}
use lib.{Dec.leb, Ieee.Float, ListN.length, ListN.drop, ListN.length-append}
use Rattle.octets.specs.Choice.{either}
use Rattle.octets.proofs.Places.{after, append_assoc}
use Rattle.element.specs.Tree.{Tree, Trees, Pairs, bytes_of, bytes_of_all, part_count, Lawful, LawfulAll}
use Rattle.element.specs.{Tree.Tree.leaf, Tree.Tree.array, Tree.Tree.map, Meaning.Element.list, Meaning.Element.table}
use Rattle.element.specs.{Meaning.Elements.no_more, Meaning.Elements.more, Meaning.Fields.no_field}
use Rattle.element.specs.Lead.{class_of}
use Rattle.element.specs.Meaning.{Elements, Fields, meaning_of, meaning_of_all, meaning_of_pairs}
use Rattle.element.proofs.At.{leaf_at_lem, array_at, map_at}
use Rattle.std.specs.Prelude.{None}
use Rattle.number.specs.Number.{Found, number_of}
use Rattle.field.specs.{Kind.Kind, Cell.Said, Cell.judged, Cell.cell_of}
use Rattle.field.specs.Code.At.{leaves_from, shallow_at, leaves_end, nested_from, nested_at, is_nested, seen_at, cell_at}
use Rattle.field.specs.Judge.{on_some, natural_in, real_in, naturals_in, octets_in, pieces_in, reals_in, three_of, counts_sized, strings_sized, string_sized, judge}
use Rattle.field.proofs.Standing.{leaf_end, leaf_shallow, leaf_nested, array_span, array_shallow, array_nested, array_parts, map_shallow, map_nested}
use Rattle.field.proofs.Arrays.{no_parts}

-- what every part of an array is, as a test on its number says; none where one part is not
module _ {A : Type 0} (pick : Found → Option A) where
  abbrev joined : Option A → Option (List A) → Option (List A)
  joined x xs = on_some x (λ y. on_some xs (λ ys. some (y ∷ ys)))

  unfoldable gathered : Elements → Option (List A)
  gathered no_more = some []
  gathered (more e es) = joined (pick (number_of e)) (gathered es)

  module _ (s : List ℕ) (stop : pick None ≡ none) where
    -- the parts read as leaves give what the parts mean
    gathered_tree : (ts : Trees) (at : ℕ) (t : List ℕ) → LawfulAll ts → drop at s ≡ bytes_of_all ts ++ t
        → gathered (leaves_from s (part_count ts) at) ≡ gathered (meaning_of_all ts)
    unfolding gathered leaves_from bytes_of Lawful part_count meaning_of
    gathered_tree Trees.none at t L e = refl
    gathered_tree (Trees.some (leaf b l d) ts) at t L e =
        let g = e ∙ append_assoc (bytes_of (leaf b l d)) (bytes_of_all ts) t in
        let i = leaf_end s at b l (bytes_of_all ts ++ t) d L.0 g in
        let r = gathered_tree ts (at + length (bytes_of (leaf b l d))) t L.1 (after s at (bytes_of (leaf b l d)) (bytes_of_all ts ++ t) g) in
        rw (i, r, leaf_at_lem s at b l (bytes_of_all ts ++ t) d L.0 g)
    gathered_tree (Trees.some (array b l us) ts) at t L e =
        let g = e ∙ append_assoc (bytes_of (array b l us)) (bytes_of_all ts) t in
        simp (array_at s at b l (bytes_of_all ts ++ t) us L.0 g, stop)
    gathered_tree (Trees.some (map b l ps) ts) at t L e =
        let g = e ∙ append_assoc (bytes_of (map b l ps)) (bytes_of_all ts) t in
        simp (map_at s at b l (bytes_of_all ts ++ t) ps L.0 g, stop)

naturals_gathered : (hi : ℕ) (es : Elements) → naturals_in hi es ≡ gathered (natural_in hi) es
unfolding naturals_in gathered
naturals_gathered hi no_more = refl
naturals_gathered hi (more e es) = ap (joined (natural_in hi) (natural_in hi (number_of e))) (naturals_gathered hi es)

reals_gathered : (es : Elements) → reals_in es ≡ gathered real_in es
unfolding reals_in gathered
reals_gathered no_more = refl
reals_gathered (more e es) = ap (joined real_in (real_in (number_of e))) (reals_gathered es)

module _ (ts : Trees) (s : List ℕ) (at : ℕ) (t : List ℕ) (L : LawfulAll ts) (e : drop at s ≡ bytes_of_all ts ++ t) where
  pub naturals_tree : (hi : ℕ) → naturals_in hi (leaves_from s (part_count ts) at) ≡ naturals_in hi (meaning_of_all ts)
  naturals_tree hi = naturals_gathered hi _ ∙ gathered_tree (natural_in hi) s refl ts at t L e ∙ sym (naturals_gathered hi _)

  reals_tree : reals_in (leaves_from s (part_count ts) at) ≡ reals_in (meaning_of_all ts)
  reals_tree = reals_gathered _ ∙ gathered_tree real_in s refl ts at t L e ∙ sym (reals_gathered _)

-- parts that are all numbers are leaves: they end where their bytes do
leaves_end_lem : (ts : Trees) (s : List ℕ) (at : ℕ) (t : List ℕ) (hi : ℕ) (ns : List ℕ) → LawfulAll ts → drop at s ≡ bytes_of_all ts ++ t
    → naturals_in hi (meaning_of_all ts) ≡ some ns → leaves_end s (part_count ts) at ≡ at + length (bytes_of_all ts)
unfolding leaves_end bytes_of Lawful part_count meaning_of naturals_in
leaves_end_lem Trees.none s at t hi ns L e n = omega arith
leaves_end_lem (Trees.some (leaf b l d) ts) s at t hi ns L e n =
    let size = length (bytes_of (leaf b l d)) in
    let g = e ∙ append_assoc (bytes_of (leaf b l d)) (bytes_of_all ts) t in
    ap (leaves_end s (part_count ts)) (leaf_end s at b l (bytes_of_all ts ++ t) d L.0 g)
    ∙ rest (natural_in hi (number_of (meaning_of (leaf b l d)))) (naturals_in hi (meaning_of_all ts)) refl n
    (λ ms. leaves_end_lem ts s (at + size) t hi ms L.1 (after s at (bytes_of (leaf b l d)) (bytes_of_all ts ++ t) g))
  where
    rest : (o : Option ℕ) (p : Option (List ℕ)) → naturals_in hi (meaning_of_all ts) ≡ p → on_some o (λ n. on_some p (λ ns. some (n ∷ ns))) ≡ some ns
        → ((ms : List ℕ) → naturals_in hi (meaning_of_all ts) ≡ some ms
        → leaves_end s (part_count ts) (at + length (bytes_of (leaf b l d))) ≡ at + length (bytes_of (leaf b l d)) + length (bytes_of_all ts))
        → leaves_end s (part_count ts) (at + length (bytes_of (leaf b l d))) ≡ at + length (bytes_of (leaf b l d) ++ bytes_of_all ts)
    rest none p q n r = absurd (let z : ◌≡◌ {A = ℕ} 0 1 = cc in omega arith)
    rest (some x) none q n r = absurd (let z : ◌≡◌ {A = ℕ} 0 1 = cc in omega arith)
    rest (some x) (some ms) q n r = r ms q ∙ omega (arith, length-append (bytes_of (leaf b l d)) (bytes_of_all ts))
leaves_end_lem (Trees.some (array b l us) ts) s at t hi ns L e n = absurd (let z : ◌≡◌ {A = ℕ} 0 1 = cc in omega arith)
leaves_end_lem (Trees.some (map b l ps) ts) s at t hi ns L e n = absurd (let z : ◌≡◌ {A = ℕ} 0 1 = cc in omega arith)

-- the arrays of bytes that the parts are: each is looked into, and where one is none what follows it does not matter
module _ (most : ℕ) (s : List ℕ) where
  abbrev joined_pieces : Option (List ℕ) → Option (List (List ℕ)) → Option (List (List ℕ))
  joined_pieces x xs = on_some x (λ d. on_some xs (λ ds. some (d ∷ ds)))

  abbrev piece_of : Option (List ℕ) → Option (List ℕ)
  piece_of o = on_some o (λ d. either (leb (length d) most) (λ _. some d) (λ _. none))

  pieces_tree : (ts : Trees) (at : ℕ) (t : List ℕ) → LawfulAll ts → drop at s ≡ bytes_of_all ts ++ t
      → pieces_in most (nested_from s (part_count ts) at) ≡ pieces_in most (meaning_of_all ts)
  unfolding pieces_in nested_from bytes_of Lawful part_count meaning_of
  pieces_tree Trees.none at t L e = refl
  pieces_tree (Trees.some (leaf b l d) ts) at t L e =
      let g = e ∙ append_assoc (bytes_of (leaf b l d)) (bytes_of_all ts) t in
      simp (leaf_shallow s at b l (bytes_of_all ts ++ t) d L.0 g, no_parts (class_of b) b d)
  pieces_tree (Trees.some (array b l us) ts) at t L e =
      let g = e ∙ append_assoc (bytes_of (array b l us)) (bytes_of_all ts) t in
      let p = array_parts s at b l (bytes_of_all ts ++ t) us g in
      let from = at + 1 + length l in
      let same = naturals_tree us s from (bytes_of_all ts ++ t) L.0.1 p 255 in
      rw (array_shallow s at b l (bytes_of_all ts ++ t) us L.0 g, array_span s at b l (bytes_of_all ts ++ t) us L.0 g, same)
      (rest (naturals_in 255 (meaning_of_all us)) refl
      (λ d. leaves_end_lem us s from (bytes_of_all ts ++ t) 255 d L.0.1 p)
      (pieces_tree ts (at + length (bytes_of (array b l us))) t L.1 (after s at (bytes_of (array b l us)) (bytes_of_all ts ++ t) g)))
    where
      rest : (o : Option (List ℕ)) → naturals_in 255 (meaning_of_all us) ≡ o
          → ((d : List ℕ) → naturals_in 255 (meaning_of_all us) ≡ some d → leaves_end s (part_count us) (at + 1 + length l) ≡ at + 1 + length l + length (bytes_of_all us))
          → pieces_in most (nested_from s (part_count ts) (at + length (bytes_of (array b l us)))) ≡ pieces_in most (meaning_of_all ts)
          → joined_pieces (piece_of o) (pieces_in most (nested_from s (part_count ts) (leaves_end s (part_count us) (at + 1 + length l))))
          ≡ joined_pieces (piece_of o) (pieces_in most (meaning_of_all ts))
      rest none q ends r = refl
      rest (some d) q ends r =
          let j : at + 1 + length l + length (bytes_of_all us) ≡ at + length (bytes_of (array b l us)) = omega (arith, length-append l (bytes_of_all us)) in
          rw (ends d q, j, r)
  pieces_tree (Trees.some (map b l ps) ts) at t L e =
      let g = e ∙ append_assoc (bytes_of (map b l ps)) (bytes_of_all ts) t in
      rw (map_shallow s at b l (bytes_of_all ts ++ t) ps L.0 g)

-- what a kind looks for in an array is alike in two
abbrev Alike : Kind → Elements → Elements → Type 0
Alike (Kind.wholes lo hi) es fs = Unit {0}
Alike Kind.reals es fs = Unit {0}
Alike Kind.singles es fs = Unit {0}
Alike Kind.flags es fs = Unit {0}
Alike Kind.positions es fs = reals_in es ≡ reals_in fs
Alike (Kind.arrays lo hi) es fs = octets_in es ≡ octets_in fs
Alike (Kind.counters many) es fs = naturals_in 0xFFFFFFFF es ≡ naturals_in 0xFFFFFFFF fs
Alike (Kind.pieces many most all) es fs = pieces_in most es ≡ pieces_in most fs
Alike (Kind.texts lo hi) es fs = Unit {0}
Alike Kind.versions es fs = Unit {0}
Alike Kind.words es fs = Unit {0}
Alike Kind.maps es fs = Unit {0}

judge_list : (k : Kind) (es fs : Elements) → Alike k es fs → judge k (list es) ≡ judge k (list fs)
unfolding judge
judge_list (Kind.wholes lo hi) es fs a = refl
judge_list Kind.reals es fs a = refl
judge_list Kind.singles es fs a = refl
judge_list Kind.flags es fs a = refl
judge_list Kind.positions es fs a = ap (λ (x : Option (List Float)). on_some x three_of) a
judge_list (Kind.arrays lo hi) es fs a = ap (λ (x : Option (List ℕ)). on_some x (string_sized lo hi)) a
judge_list (Kind.counters many) es fs a = ap (λ (x : Option (List ℕ)). on_some x (counts_sized many)) a
judge_list (Kind.pieces many most all) es fs a = ap (λ (x : Option (List (List ℕ))). on_some x (strings_sized many all)) a
judge_list (Kind.texts lo hi) es fs a = refl
judge_list Kind.versions es fs a = refl
judge_list Kind.words es fs a = refl
judge_list Kind.maps es fs a = refl

-- and at no map's pairs
judge_table : (k : Kind) (fs gs : Fields) → judge k (table fs) ≡ judge k (table gs)
unfolding judge
judge_table (Kind.wholes lo hi) fs gs = refl
judge_table Kind.reals fs gs = refl
judge_table Kind.singles fs gs = refl
judge_table Kind.flags fs gs = refl
judge_table Kind.positions fs gs = refl
judge_table (Kind.arrays lo hi) fs gs = refl
judge_table (Kind.counters many) fs gs = refl
judge_table (Kind.pieces many most all) fs gs = refl
judge_table (Kind.texts lo hi) fs gs = refl
judge_table Kind.versions fs gs = refl
judge_table Kind.words fs gs = refl
judge_table Kind.maps fs gs = refl

-- what each kind sees of an array is alike to what its parts mean
module _ (ts : Trees) (s : List ℕ) (at : ℕ) (t : List ℕ) (L : LawfulAll ts) (e : drop at s ≡ bytes_of_all ts ++ t) where
  abbrev parts_seen : Kind → Elements
  parts_seen k = either (is_nested k) (λ _. nested_from s (part_count ts) at) (λ _. leaves_from s (part_count ts) at)

  alike : (k : Kind) → Alike k (parts_seen k) (meaning_of_all ts)
  alike (Kind.wholes lo hi) = tt
  alike Kind.reals = tt
  alike Kind.singles = tt
  alike Kind.flags = tt
  alike Kind.positions = reals_tree ts s at t L e
  alike (Kind.arrays lo hi) = naturals_tree ts s at t L e 255
  alike (Kind.counters many) = naturals_tree ts s at t L e 0xFFFFFFFF
  alike (Kind.pieces many most all) = pieces_tree most s ts at t L e
  alike (Kind.texts lo hi) = tt
  alike Kind.versions = tt
  alike Kind.words = tt
  alike Kind.maps = tt

module _ (k : Kind) (s : List ℕ) (at : ℕ) where
  -- a view into arrays sees leaves and maps as the other does
  seen_leaf : (b : ℕ) (l d t : List ℕ) → Lawful (leaf b l d) → drop at s ≡ bytes_of (leaf b l d) ++ t → seen_at k s at ≡ meaning_of (leaf b l d)
  seen_leaf b l d t L e = go (is_nested k)
    where
      go : (n : Bool) → either n (λ _. nested_at s at) (λ _. shallow_at s at) ≡ meaning_of (leaf b l d)
      go true = leaf_nested s at b l t d L e
      go false = leaf_shallow s at b l t d L e

  seen_array : (b : ℕ) (l t : List ℕ) (ts : Trees) → Lawful (array b l ts) → drop at s ≡ bytes_of (array b l ts) ++ t
      → seen_at k s at ≡ list (either (is_nested k) (λ _. nested_from s (part_count ts) (at + 1 + length l)) (λ _. leaves_from s (part_count ts) (at + 1 + length l)))
  seen_array b l t ts L e = go (is_nested k)
    where
      go : (n : Bool) → either n (λ _. nested_at s at) (λ _. shallow_at s at)
          ≡ list (either n (λ _. nested_from s (part_count ts) (at + 1 + length l)) (λ _. leaves_from s (part_count ts) (at + 1 + length l)))
      go true = array_nested s at b l t ts L e
      go false = array_shallow s at b l t ts L e

  seen_map : (b : ℕ) (l t : List ℕ) (ps : Pairs) → Lawful (map b l ps) → drop at s ≡ bytes_of (map b l ps) ++ t → seen_at k s at ≡ table no_field
  seen_map b l t ps L e = go (is_nested k)
    where
      go : (n : Bool) → either n (λ _. nested_at s at) (λ _. shallow_at s at) ≡ table no_field
      go true = map_nested s at b l t ps L e
      go false = map_shallow s at b l t ps L e

pub judge_tree : (k : Kind) (w : Tree) (s : List ℕ) (at : ℕ) (t : List ℕ) → Lawful w → drop at s ≡ bytes_of w ++ t
    → judge k (seen_at k s at) ≡ judge k (meaning_of w)
unfolding Lawful meaning_of
judge_tree k (leaf b l d) s at t L e = ap (judge k) (seen_leaf k s at b l d t L e)
judge_tree k (array b l ts) s at t L e =
    let from = at + 1 + length l in
    ap (judge k) (seen_array k s at b l t ts L e)
    ∙ judge_list k (parts_seen ts s from t L.1 (array_parts s at b l t ts e) k) (meaning_of_all ts) (alike ts s from t L.1 (array_parts s at b l t ts e) k)
judge_tree k (map b l ps) s at t L e = ap (judge k) (seen_map k s at b l t ps L e) ∙ judge_table k no_field (meaning_of_pairs ps)

-- the cell read at a place where a key's value stands is the cell of its meaning, said once
pub cell_tree : (k : Kind) (w : Tree) (s : List ℕ) (p : ℕ) (t : List ℕ) → 2 ≤ p → Lawful w → drop p s ≡ bytes_of w ++ t
    → cell_at k s p ≡ cell_of k (Said.once (meaning_of w))
unfolding cell_at
cell_tree k w s zero t h L e = absurd (omega arith)
cell_tree k w s (suc zero) t h L e = absurd (omega arith)
cell_tree k w s (suc (suc p)) t h L e = ap judged (judge_tree k w s (suc (suc p)) t L e)
