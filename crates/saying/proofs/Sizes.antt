-- The tree of a value in its range is lawful, of at most three levels, and of at most as many bytes and elements as its kind allows. By one case a kind.
-- Assumes nothing.
use mathlib.Core.{Path.◌≡◌, Path.refl, Path.sym, Bool.Bool, Bool.true, Bool.false, Bool.◌&&◌}
use mathlib.Core.List.{List, [], ◌∷◌, ◌++◌}
use Prim.Native.Nat.{ℕ, zero, suc, ◌+◌, ◌*◌, ◌^◌, ◌≤◌, ◌<◌}
use native.Mathlib.Omega.{arith}
use lib.Dec.{T, eqb, leb, ltb, eqb→eq, leb→le, ltb→lt, leb-zero}
use lib.{IntN.ℤ, IntN.pos, IntN.negsuc, Ieee.Float, Ieee.Fits.and_i, ListN.length, ListN.get_or, ListN.length-append, Pow.are_bytes}
use Rattle.octets.specs.{Choice.either, Bytes.IsBytes, Pieces.are_below, Pieces.strung}
use Rattle.octets.proofs.Ranges.{both_left, both_right, true_is, are_bytes_lem}
use Rattle.element.specs.Tree.{Trees, bytes_of, bytes_of_all, count_of, count_of_all, depth_of, depth_of_all, part_count, Lawful, LawfulAll}
use Rattle.element.specs.Tree.Trees.{none, some}
use Rattle.forms.specs.Shortest.{whole_tree, real_tree, number_trees, numbers_tree, piece_trees, pieces_tree, version_text}
use Rattle.shortest.proofs.Wholes.{whole_lawful, whole_count, whole_depth, whole_length, pos_length}
use Rattle.shortest.proofs.Values.{real_lawful, real_length, real_count, real_depth, mark_lawful, mark_length, mark_count, mark_depth, text_count, text_depth, text_length, text_length_few, text_lawful}
use Rattle.shortest.proofs.Many.{array_size, array_size_few, array_size_two, array_count, array_depth, array_length, array_lawful, numbers_lawful, numbers_parts_lem, numbers_count, numbers_depth, numbers_length, counters_length}
use Rattle.shortest.proofs.Pieces.{pieces_lawful, pieces_parts_lem, pieces_depth, pieces_count, pieces_length_two}
use Rattle.field.specs.{Kind.Kind, Kind.Value, Judge.in_range}
use Rattle.message.specs.Record.{string_of}
use Rattle.saying.specs.{Fits.is_sized, Fits.are_pieces, Fits.in_bounds, Written.tree_of}
use Rattle.saying.proofs.{Decimals.version_length, Sorts.Sorted, Sorts.sized_most, Sorts.is_held, Words.is_word}
use Rattle.saying.proofs.Sorts.Sorted.{whole, real, single, flag, position, array, counters, pieces, text, version, word}

-- a place's parts
module _ (x y z : Float) where
  abbrev three : Trees
  three = some (real_tree x) (some (real_tree y) (some (real_tree z) none))

  three_parts : part_count three ≡ 3
  unfolding part_count
  three_parts = refl

  three_lawful : LawfulAll three
  unfolding Lawful
  three_lawful = (real_lawful x, (real_lawful y, (real_lawful z, tt)))

  three_depth : depth_of_all three ≤ 1
  unfolding depth_of
  three_depth = omega (arith, real_depth x, real_depth y, real_depth z)

  three_length : length (bytes_of_all three) ≤ 27
  unfolding bytes_of
  three_length =
      omega (
        arith,
        length-append (bytes_of (real_tree x)) (bytes_of (real_tree y) ++ (bytes_of (real_tree z) ++ [])),
        length-append (bytes_of (real_tree y)) (bytes_of (real_tree z) ++ []),
        length-append (bytes_of (real_tree z)) [],
        real_length x,
        real_length y,
        real_length z,
      )

three_count : (x y z : Float) → count_of_all (three x y z) ≡ 3
unfolding count_of
three_count x y z = omega (arith, real_count x, real_count y, real_count z)

-- counters, and data entries with their bytes, by their places
below_at : (b : ℕ) (ns : List ℕ) → 0 < b → T (are_below b ns) → (k : ℕ) → get_or ns k 0 < b
below_at b [] h t k = h
below_at b (n ∷ ns) h t zero = ltb→lt n b (both_left (ltb n b) (are_below b ns) t)
below_at b (n ∷ ns) h t (suc k) = below_at b ns h (both_right (ltb n b) (are_below b ns) t) k

module _ (most : ℕ) where
  abbrev is_piece : List ℕ → Bool
  is_piece d = leb (length d) most && are_bytes d

  piece_at : (ds : List (List ℕ)) → T (are_pieces most ds) → (k : ℕ) → T (is_piece (get_or ds k []))
  unfolding are_pieces
  piece_at [] t k = and_i (leb 0 most) true (true_is (leb 0 most) (sym (leb-zero most))) tt
  piece_at (d ∷ ds) t zero = both_left (is_piece d) (are_pieces most ds) t
  piece_at (d ∷ ds) t (suc k) = piece_at ds (both_right (is_piece d) (are_pieces most ds) t) k

  module _ (ds : List (List ℕ)) (t : T (are_pieces most ds)) (k : ℕ) where
    piece_few : length (get_or ds k []) ≤ most
    piece_few = leb→le (length (get_or ds k [])) most (both_left (leb (length (get_or ds k [])) most) (are_bytes (get_or ds k [])) (piece_at ds t k))

    piece_bytes : IsBytes (get_or ds k [])
    piece_bytes = are_bytes_lem (get_or ds k []) (both_right (leb (length (get_or ds k [])) most) (are_bytes (get_or ds k [])) (piece_at ds t k))

-- what the range of data entries says
module _ (many most all : ℕ) (ds : List (List ℕ)) (h : T (is_held (Kind.pieces many most all))) (t : T (in_bounds (Kind.pieces many most all) (Value.strings ds))) where
  abbrev sized : Bool
  sized = leb (length ds) many && leb (length (strung ds)) all

  few_pieces : length ds ≤ many
  few_pieces = leb→le (length ds) many (both_left (leb (length ds) many) (leb (length (strung ds)) all) (both_left sized (are_pieces most ds) t))

  few_strung : length (strung ds) ≤ all
  few_strung = leb→le (length (strung ds)) all (both_right (leb (length ds) many) (leb (length (strung ds)) all) (both_left sized (are_pieces most ds) t))

  many_held : many < 2 ^ 16
  many_held = ltb→lt many (2 ^ 16) (both_left (ltb many (2 ^ 16)) (ltb most (2 ^ 16)) h)

  each_few : (k : ℕ) → length (get_or ds k []) < 2 ^ 16
  each_few k =
      omega (arith, piece_few most ds (both_right sized (are_pieces most ds) t) k, ltb→lt most (2 ^ 16) (both_right (ltb many (2 ^ 16)) (ltb most (2 ^ 16)) h))

  strings_lawful : Lawful (pieces_tree ds)
  strings_lawful =
      array_lawful (piece_trees ds) (omega (arith, pieces_parts_lem ds, few_pieces, many_held)) (pieces_lawful ds (λ k. let n = each_few k in omega arith))

  strings_length : length (bytes_of (pieces_tree ds)) ≤ 3 + 3 * many + 2 * all
  strings_length =
      omega (
        arith,
        array_length (piece_trees ds),
        pieces_parts_lem ds,
        array_size_two (part_count (piece_trees ds)) (omega (arith, pieces_parts_lem ds, few_pieces, many_held)),
        pieces_length_two ds (piece_bytes most ds (both_right sized (are_pieces most ds) t)) each_few,
        few_pieces,
        few_strung,
      )

module _ (many : ℕ) (ns : List ℕ) (h : T (is_held (Kind.counters many))) (t : T (in_bounds (Kind.counters many) (Value.counts ns))) where
  few_counts : length ns ≤ many
  few_counts = leb→le (length ns) many (both_left (leb (length ns) many) (are_below (2 ^ 32) ns) t)

  counts_length : length (bytes_of (numbers_tree ns)) ≤ 3 + 5 * many
  counts_length =
      let l = ltb→lt many (2 ^ 16) h in
      omega (
        arith,
        array_length (number_trees ns),
        numbers_parts_lem ns,
        array_size_two (part_count (number_trees ns)) (omega (arith, numbers_parts_lem ns, few_counts)),
        counters_length ns (below_at (2 ^ 32) ns (omega arith) (both_right (leb (length ns) many) (are_below (2 ^ 32) ns) t)),
        few_counts,
      )

pub value_lawful : {k : Kind} {v : Value} → Sorted k v → T (is_held k) → T (in_bounds k v) → length (string_of v) < 2 ^ 32 → Lawful (tree_of k v)
unfolding tree_of
value_lawful (whole lo hi z) h t l = whole_lawful z
value_lawful (real x) h t l = real_lawful x
value_lawful (single x) h t l = real_lawful x
value_lawful (flag b) h t l = mark_lawful b
value_lawful (position x y z) h t l = array_lawful (three x y z) (omega (arith, three_parts x y z)) (three_lawful x y z)
value_lawful (array lo hi d) h t l = array_lawful (number_trees d) (omega (arith, numbers_parts_lem d)) (numbers_lawful d)
value_lawful (counters many ns) h t l =
    let n = ltb→lt many (2 ^ 16) h in
    array_lawful (number_trees ns) (omega (arith, numbers_parts_lem ns, few_counts many ns h t)) (numbers_lawful ns)
value_lawful (pieces many most all ds) h t l = strings_lawful many most all ds h t
value_lawful (text lo hi d) h t l = text_lawful d l
value_lawful (version a b c) h t l = text_lawful (version_text a b c) (omega (arith, version_length a b c))
value_lawful (word d) h t l = text_lawful d l

pub value_depth : {k : Kind} {v : Value} → Sorted k v → depth_of (tree_of k v) ≤ 3
unfolding tree_of
value_depth (whole lo hi z) = omega (arith, whole_depth z)
value_depth (real x) = omega (arith, real_depth x)
value_depth (single x) = omega (arith, real_depth x)
value_depth (flag b) = omega (arith, mark_depth b)
value_depth (position x y z) = omega (arith, array_depth (three x y z), three_depth x y z)
value_depth (array lo hi d) = omega (arith, array_depth (number_trees d), numbers_depth d)
value_depth (counters many ns) = omega (arith, array_depth (number_trees ns), numbers_depth ns)
value_depth (pieces many most all ds) = omega (arith, array_depth (piece_trees ds), pieces_depth ds)
value_depth (text lo hi d) = omega (arith, text_depth d)
value_depth (version a b c) = omega (arith, text_depth (version_text a b c))
value_depth (word d) = omega (arith, text_depth d)

-- a number that is a byte is written in two, any other in at most nine
abbrev whole_most : ℕ → ℕ → ℕ
whole_most lo hi = either (eqb lo 0 && leb hi 0xFF) (λ _. 2) (λ _. 9)

byte_length : (lo hi : ℕ) (z : ℤ) → lo ≡ 0 → hi ≤ 0xFF → T (in_range lo hi z) → length (bytes_of (whole_tree z)) ≤ 2
byte_length lo hi (pos n) l h t = let m = leb→le n hi t in pos_length n 0 (omega arith)
byte_length lo hi (negsuc k) l h t = let m = leb→le (suc k) lo t in absurd (omega arith)

whole_most_lem : (lo hi : ℕ) (z : ℤ) → T (in_range lo hi z) → length (bytes_of (whole_tree z)) ≤ whole_most lo hi
whole_most_lem lo hi z t = go (eqb lo 0 && leb hi 0xFF) refl
  where
    go : (b : Bool) → eqb lo 0 && leb hi 0xFF ≡ b → length (bytes_of (whole_tree z)) ≤ either b (λ _. 2) (λ _. 9)
    go true e =
        let u = true_is (eqb lo 0 && leb hi 0xFF) (sym e) in
        byte_length lo hi z (eqb→eq lo 0 (both_left (eqb lo 0) (leb hi 0xFF) u)) (leb→le hi 0xFF (both_right (eqb lo 0) (leb hi 0xFF) u)) t
    go false e = whole_length z

-- the most elements that a value of a kind has, and the most bytes that it is written in where a word has at most w
abbrev pub many_of : Kind → ℕ
many_of (Kind.wholes lo hi) = 1
many_of Kind.reals = 1
many_of Kind.singles = 1
many_of Kind.flags = 1
many_of Kind.positions = 4
many_of (Kind.arrays lo hi) = 1 + hi
many_of (Kind.counters many) = 1 + many
many_of (Kind.pieces many most all) = 1 + many + all
many_of (Kind.texts lo hi) = 1
many_of Kind.versions = 1
many_of Kind.words = 1
many_of Kind.maps = 0

pub value_count : {k : Kind} {v : Value} → Sorted k v → T (is_held k) → T (in_bounds k v) → count_of (tree_of k v) ≤ many_of k
unfolding tree_of
value_count (whole lo hi z) h t = omega (arith, whole_count z)
value_count (real x) h t = omega (arith, real_count x)
value_count (single x) h t = omega (arith, real_count x)
value_count (flag b) h t = omega (arith, mark_count b)
value_count (position x y z) h t = omega (arith, array_count (three x y z), three_count x y z)
value_count (array lo hi d) h t =
    omega (arith, array_count (number_trees d), numbers_count d, sized_most lo hi d (both_left (is_sized lo hi d) (are_bytes d) t))
value_count (counters many ns) h t = omega (arith, array_count (number_trees ns), numbers_count ns, few_counts many ns h t)
value_count (pieces many most all ds) h t =
    omega (arith, array_count (piece_trees ds), pieces_count ds, few_pieces many most all ds h t, few_strung many most all ds h t)
value_count (text lo hi d) h t = omega (arith, text_count d)
value_count (version a b c) h t = omega (arith, text_count (version_text a b c))
value_count (word d) h t = omega (arith, text_count d)

abbrev pub most_of : ℕ → Kind → ℕ
most_of w (Kind.wholes lo hi) = whole_most lo hi
most_of w Kind.reals = 9
most_of w Kind.singles = 9
most_of w Kind.flags = 1
most_of w Kind.positions = 28
most_of w (Kind.arrays lo hi) = 5 + 2 * hi
most_of w (Kind.counters many) = 3 + 5 * many
most_of w (Kind.pieces many most all) = 3 + 3 * many + 2 * all
most_of w (Kind.texts lo hi) = 5 + hi
most_of w Kind.versions = 18
most_of w Kind.words = 1 + w
most_of w Kind.maps = 0

pub value_length : (w : ℕ) → w < 32 → {k : Kind} {v : Value} → Sorted k v → T (is_held k) → T (in_bounds k v) → length (string_of v) < 2 ^ 32 → (is_word k ≡ true → length (string_of v) ≤ w)
    → length (bytes_of (tree_of k v)) ≤ most_of w k
unfolding tree_of
value_length w s (whole lo hi z) h t l f = whole_most_lem lo hi z t
value_length w s (real x) h t l f = omega (arith, real_length x)
value_length w s (single x) h t l f = omega (arith, real_length x)
value_length w s (flag b) h t l f = omega (arith, mark_length b)
value_length w s (position x y z) h t l f =
    let e = three_parts x y z in
    omega (arith, array_length (three x y z), array_size_few (part_count (three x y z)) (omega arith), three_length x y z)
value_length w s (array lo hi d) h t l f =
    omega (
      arith,
      array_length (number_trees d),
      array_size (part_count (number_trees d)),
      numbers_length d (both_right (is_sized lo hi d) (are_bytes d) t),
      sized_most lo hi d (both_left (is_sized lo hi d) (are_bytes d) t),
    )
value_length w s (counters many ns) h t l f = counts_length many ns h t
value_length w s (pieces many most all ds) h t l f = strings_length many most all ds h t
value_length w s (text lo hi d) h t l f = omega (arith, text_length d l, sized_most lo hi d t)
value_length w s (version a b c) h t l f =
    let n = version_length a b c in
    omega (arith, text_length_few (version_text a b c) (omega arith))
value_length w s (word d) h t l f =
    let n = f refl in
    omega (arith, text_length_few d (omega arith))
