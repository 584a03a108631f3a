-- Arrays and maps with their shortest heads are lawful where what they hold is, and mean the list and the table of it.
-- Numbers as an array: as many elements as numbers, each of at most the bytes of a width that holds all and a lead byte. Assumes nothing.
use mathlib.Core.{Path.◌≡◌, Path.refl, Path.ap, List.List, List.[], List.◌∷◌}
use Prim.Native.Nat.{ℕ, suc, ◌+◌, ◌*◌, ◌^◌, ◌≤◌, ◌<◌}
use native.Mathlib.Nat.{mul-suc}
use native.Mathlib.Omega.{arith}
use lib.{Dec.T, IntN.pos, ListN.length, ListN.get_or, ListN.length-append, Pow.are_bytes}
use Rattle.octets.proofs.Ranges.{are_bytes_lem}
use Rattle.element.specs.declared.Shape.TheVariants.{Array, Map}
use Rattle.element.specs.{Lead.Class, Meaning.meaning_of, Meaning.meaning_of_all, Meaning.meaning_of_pairs, Meaning.Element.list, Meaning.Element.table}
use Rattle.element.specs.Tree.{Trees, Pairs, bytes_of, bytes_of_all, bytes_of_pairs, count_of, count_of_all, count_of_pairs, depth_of, depth_of_all, depth_of_pairs, part_count, pair_count, shape_of_tree, Lawful, LawfulAll, LawfulPairs}
use Rattle.forms.specs.Shortest.{whole_tree, array_head, array_tree, map_head, map_tree, number_trees}
use Rattle.shortest.proofs.Wholes.{whole_count, whole_depth, pos_lawful, pos_length}
use Rattle.shortest.proofs.Heads.{head_lawful, many_size, many_size_few, many_size_two, array_heads, map_heads}

-- the bytes of length behind the lead byte
module _ (n : ℕ) where
  pub array_size : length (array_head n).size ≤ 4
  array_size = many_size 0x90 0xDC n

  pub array_size_few : n < 16 → length (array_head n).size ≡ 0
  array_size_few = many_size_few 0x90 0xDC n

  pub array_size_two : n < 2 ^ 16 → length (array_head n).size ≤ 2
  array_size_two = many_size_two 0x90 0xDC n

  pub map_size : length (map_head n).size ≤ 4
  map_size = many_size 0x80 0xDE n

  pub map_size_few : n < 16 → length (map_head n).size ≡ 0
  map_size_few = many_size_few 0x80 0xDE n

  pub map_size_two : n < 2 ^ 16 → length (map_head n).size ≤ 2
  map_size_two = many_size_two 0x80 0xDE n

module _ (ts : Trees) where
  pub array_means : meaning_of (array_tree ts) ≡ list (meaning_of_all ts)
  unfolding array_tree meaning_of
  array_means = refl

  pub array_count : count_of (array_tree ts) ≡ 1 + count_of_all ts
  unfolding array_tree count_of
  array_count = refl

  pub array_depth : depth_of (array_tree ts) ≡ 1 + depth_of_all ts
  unfolding array_tree depth_of
  array_depth = refl

  pub array_length : length (bytes_of (array_tree ts)) ≡ 1 + length (array_head (part_count ts)).size + length (bytes_of_all ts)
  unfolding array_tree bytes_of
  array_length = omega (arith, length-append (array_head (part_count ts)).size (bytes_of_all ts))

  pub array_shape : part_count ts < 2 ^ 32 → shape_of_tree (array_tree ts) ≡ Array
  unfolding array_tree
  array_shape h = (head_lawful Class.array (part_count ts) (array_head (part_count ts)) (array_heads (part_count ts) h)).shape_is

  pub array_lawful : part_count ts < 2 ^ 32 → LawfulAll ts → Lawful (array_tree ts)
  unfolding array_tree Lawful
  array_lawful h L = (head_lawful Class.array (part_count ts) (array_head (part_count ts)) (array_heads (part_count ts) h), L)

module _ (ps : Pairs) where
  pub map_means : meaning_of (map_tree ps) ≡ table (meaning_of_pairs ps)
  unfolding map_tree meaning_of
  map_means = refl

  pub map_count : count_of (map_tree ps) ≡ 1 + count_of_pairs ps
  unfolding map_tree count_of
  map_count = refl

  pub map_depth : depth_of (map_tree ps) ≡ 1 + depth_of_pairs ps
  unfolding map_tree depth_of
  map_depth = refl

  pub map_length : length (bytes_of (map_tree ps)) ≡ 1 + length (map_head (pair_count ps)).size + length (bytes_of_pairs ps)
  unfolding map_tree bytes_of
  map_length = omega (arith, length-append (map_head (pair_count ps)).size (bytes_of_pairs ps))

  pub map_shape : pair_count ps < 2 ^ 32 → shape_of_tree (map_tree ps) ≡ Map
  unfolding map_tree
  map_shape h = (head_lawful Class.map (pair_count ps) (map_head (pair_count ps)) (map_heads (pair_count ps) h)).shape_is

  pub map_lawful : pair_count ps < 2 ^ 32 → LawfulPairs ps → Lawful (map_tree ps)
  unfolding map_tree Lawful
  map_lawful h L = (head_lawful Class.map (pair_count ps) (map_head (pair_count ps)) (map_heads (pair_count ps) h), L)

-- numbers as an array
pub numbers_lawful : (d : List ℕ) → LawfulAll (number_trees d)
unfolding number_trees Lawful
numbers_lawful [] = tt
numbers_lawful (b ∷ d) = (pos_lawful b, numbers_lawful d)

pub numbers_parts_lem : (d : List ℕ) → part_count (number_trees d) ≡ length d
unfolding number_trees part_count
numbers_parts_lem [] = refl
numbers_parts_lem (b ∷ d) = ap suc (numbers_parts_lem d)

pub numbers_count : (d : List ℕ) → count_of_all (number_trees d) ≡ length d
unfolding number_trees count_of
numbers_count [] = refl
numbers_count (b ∷ d) = omega (arith, whole_count (pos b), numbers_count d)

pub numbers_depth : (d : List ℕ) → depth_of_all (number_trees d) ≤ 1
unfolding number_trees depth_of
numbers_depth [] = omega arith
numbers_depth (b ∷ d) = omega (arith, whole_depth (pos b), numbers_depth d)

-- in as many bytes each as a width that holds them all, and the lead byte
pub numbers_length_by : (i : ℕ) (ns : List ℕ) → ((k : ℕ) → get_or ns k 0 < 2 ^ (8 * 2 ^ i)) → length (bytes_of_all (number_trees ns)) ≤ (1 + 2 ^ i) * length ns
unfolding number_trees bytes_of
numbers_length_by i [] h = omega arith
numbers_length_by i (n ∷ ns) h =
    omega (
      arith,
      length-append (bytes_of (whole_tree (pos n))) (bytes_of_all (number_trees ns)),
      pos_length n i (h 0),
      numbers_length_by i ns (λ k. h (suc k)),
      mul-suc (1 + 2 ^ i) (length ns),
    )

pub numbers_length : (d : List ℕ) → T (are_bytes d) → length (bytes_of_all (number_trees d)) ≤ 2 * length d
numbers_length d t = numbers_length_by 0 d (are_bytes_lem d t)

pub counters_length : (ns : List ℕ) → ((k : ℕ) → get_or ns k 0 < 2 ^ 32) → length (bytes_of_all (number_trees ns)) ≤ 5 * length ns
counters_length ns h = numbers_length_by 2 ns h
