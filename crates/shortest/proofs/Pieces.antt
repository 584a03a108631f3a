-- Arrays of bytes as an array: lawful, as many elements as arrays, at most two levels, and at most twice as many bytes as all of theirs with so many
-- for each head. By induction over the arrays. Assumes nothing.
use mathlib.Core.{Path.◌≡◌, Path.refl, Path.ap, List.List, List.[], List.◌∷◌}
use Prim.Native.Nat.{ℕ, suc, ◌+◌, ◌*◌, ◌^◌, ◌≤◌, ◌<◌}
use native.Mathlib.Nat.{mul-suc}
use native.Mathlib.Omega.{arith}
use lib.ListN.{length, get_or, length-append}
use Rattle.octets.specs.{Bytes.IsBytes, Pieces.strung}
use Rattle.element.specs.Tree.{bytes_of, bytes_of_all, count_of, count_of_all, depth_of, depth_of_all, part_count, Lawful, LawfulAll}
use Rattle.forms.specs.Shortest.{array_head, number_trees, numbers_tree, piece_trees}
use Rattle.shortest.proofs.Many.{array_size, array_size_two, array_count, array_depth, array_length, array_lawful, numbers_lawful, numbers_parts_lem, numbers_count, numbers_depth, numbers_length_by}

pub pieces_lawful : (ds : List (List ℕ)) → ((k : ℕ) → length (get_or ds k []) < 2 ^ 32) → LawfulAll (piece_trees ds)
unfolding piece_trees Lawful
pieces_lawful [] h = tt
pieces_lawful (d ∷ ds) h =
    (array_lawful (number_trees d) (omega (arith, numbers_parts_lem d, h 0)) (numbers_lawful d), pieces_lawful ds (λ k. h (suc k)))

pub pieces_parts_lem : (ds : List (List ℕ)) → part_count (piece_trees ds) ≡ length ds
unfolding piece_trees part_count
pieces_parts_lem [] = refl
pieces_parts_lem (d ∷ ds) = ap suc (pieces_parts_lem ds)

pub pieces_depth : (ds : List (List ℕ)) → depth_of_all (piece_trees ds) ≤ 2
unfolding piece_trees depth_of
pieces_depth [] = omega arith
pieces_depth (d ∷ ds) = omega (arith, array_depth (number_trees d), numbers_depth d, pieces_depth ds)

pub pieces_count : (ds : List (List ℕ)) → count_of_all (piece_trees ds) ≡ length ds + length (strung ds)
unfolding piece_trees count_of strung
pieces_count [] = refl
pieces_count (d ∷ ds) = omega (arith, array_count (number_trees d), numbers_count d, pieces_count ds, length-append d (strung ds))

-- with at most h bytes of length in each head
pub pieces_length_by : (h : ℕ) (ds : List (List ℕ)) → ((k : ℕ) → length (array_head (length (get_or ds k []))).size ≤ h) → ((k : ℕ) → IsBytes (get_or ds k []))
    → length (bytes_of_all (piece_trees ds)) ≤ (1 + h) * length ds + 2 * length (strung ds)
unfolding piece_trees bytes_of strung
pieces_length_by h [] s b = omega arith
pieces_length_by h (d ∷ ds) s b =
    let l : length (array_head (part_count (number_trees d))).size ≤ h = rw (numbers_parts_lem d) (s 0) in
    omega (
      arith,
      length-append (bytes_of (numbers_tree d)) (bytes_of_all (piece_trees ds)),
      array_length (number_trees d),
      numbers_length_by 0 d (b 0),
      pieces_length_by h ds (λ k. s (suc k)) (λ k. b (suc k)),
      mul-suc (1 + h) (length ds),
      length-append d (strung ds),
    )

module _ (ds : List (List ℕ)) (bytes : (k : ℕ) → IsBytes (get_or ds k [])) where
  pub pieces_length : length (bytes_of_all (piece_trees ds)) ≤ 5 * length ds + 2 * length (strung ds)
  pieces_length = pieces_length_by 4 ds (λ k. array_size (length (get_or ds k []))) bytes

  pub pieces_length_two : ((k : ℕ) → length (get_or ds k []) < 2 ^ 16) → length (bytes_of_all (piece_trees ds)) ≤ 3 * length ds + 2 * length (strung ds)
  pieces_length_two h = pieces_length_by 2 ds (λ k. array_size_two (length (get_or ds k [])) (h k)) bytes
