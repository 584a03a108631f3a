-- A value in its range reads back as it was written: what its tree means is what the kind's judgement asks for. By one case a kind.
-- A text has a form where its length is below 2 ^ 32, which the range of a word does not say. Assumes nothing.
use mathlib.Core.{Path.◌≡◌, Path.refl, Bool.Bool, Bool.◌&&◌, List.List, List.[], List.◌∷◌, Option.some}
use Prim.Native.Nat.{ℕ, suc, ◌^◌, ◌<◌}
use native.Mathlib.Omega.{arith}
use lib.Dec.{T, leb, ltb, leb→le, ltb→lt}
use lib.{IntN.ℤ, IntN.pos, IntN.negsuc, ListN.length, Pow.are_bytes}
use lib.Ieee.{Float, binary32, binary64, to_bits, fits as holds}
use Rattle.octets.specs.Pieces.{are_below, strung}
use borrow.Author.Tests.{le-leb}
use Rattle.octets.proofs.Ranges.{both_left, both_right, is_true}
use Rattle.element.specs.Meaning.{meaning_of, meaning_of_all}
use Rattle.std.specs.Prelude.{Some}
use Rattle.number.specs.declared.Number.TheVariants.{Real}
use Rattle.number.specs.Number.{finite, number_of}
use Rattle.forms.specs.Shortest.{whole_tree, real_tree, array_tree, number_trees, numbers_tree, piece_trees, version_text}
use Rattle.shortest.proofs.{Wholes.pos_means, Wholes.negsuc_means, Values.real_number, Values.mark_means, Values.text_means}
use Rattle.field.specs.Kind.{Kind, Value}
use Rattle.field.specs.Judge.{when, naturals_in, octets_in, piece_in, pieces_in, reals_in, judge}
use Rattle.message.specs.Record.{string_of}
use Rattle.saying.specs.Fits.{is_real, is_sized, are_pieces, in_bounds, within}
use Rattle.saying.specs.Written.{tree_of}
use Rattle.saying.proofs.{Shown.kept_by, Decimals.version_back, Decimals.version_length}
use Rattle.saying.proofs.Sorts.{Sorted, sorted, bounds, is_held}
use Rattle.saying.proofs.Sorts.Sorted.{whole, real, single, flag, position, array, counters, pieces, text, version, word}

-- a test that passed chooses the value
passed : (b : Bool) (v : Value) → T b → when b v ≡ some v
passed b v t = rw (← is_true b t)

whole_back : (lo hi : ℕ) (z : ℤ) → T (is_held (Kind.wholes lo hi)) → T (in_bounds (Kind.wholes lo hi) (Value.number z))
    → judge (Kind.wholes lo hi) (meaning_of (whole_tree z)) ≡ some (Value.number z)
unfolding judge
whole_back lo hi (pos n) h t =
    let l = ltb→lt hi (2 ^ 64) (both_right (leb lo (2 ^ 63)) (ltb hi (2 ^ 64)) h) in
    let m = leb→le n hi t in
    rw (pos_means n (omega arith)) (passed (leb n hi) (Value.number (pos n)) t)
whole_back lo hi (negsuc k) h t =
    let l = leb→le lo (2 ^ 63) (both_left (leb lo (2 ^ 63)) (ltb hi (2 ^ 64)) h) in
    let m = leb→le (suc k) lo t in
    rw (negsuc_means k (omega arith)) (passed (leb (suc k) lo) (Value.number (negsuc k)) t)

real_back : (x : Float) → T (is_real x) → number_of (meaning_of (real_tree x)) ≡ Some (Real x)
real_back x t =
    real_number x (both_right (finite binary64 (to_bits binary64 x)) (holds binary64 x) t)
    (both_left (finite binary64 (to_bits binary64 x)) (holds binary64 x) t)

place_back : (x y z : Float) → T (is_real x && (is_real y && is_real z))
    → judge Kind.positions (meaning_of (tree_of Kind.positions (Value.position x y z))) ≡ some (Value.position x y z)
unfolding judge tree_of array_tree meaning_of reals_in
place_back x y z t =
    let u = both_right (is_real x) (is_real y && is_real z) t in
    rw (real_back x (both_left (is_real x) (is_real y && is_real z) t), real_back y (both_left (is_real y) (is_real z) u), real_back z (both_right (is_real y) (is_real z) u))

-- numbers up to hi, as a test of lists has it that goes number by number
module _ (hi : ℕ) (small : hi < 2 ^ 64) (test : List ℕ → Bool) (parts : (n : ℕ) (ns : List ℕ) → T (test (n ∷ ns)) → T (ltb n (suc hi)) × T (test ns)) where
  naturals_back : (ns : List ℕ) → T (test ns) → naturals_in hi (meaning_of_all (number_trees ns)) ≡ some ns
  unfolding naturals_in number_trees meaning_of
  naturals_back [] t = refl
  naturals_back (n ∷ ns) t =
      let h = ltb→lt n (suc hi) (parts n ns t).0 in
      rw (pos_means n (omega arith), le-leb n hi (omega arith), naturals_back ns (parts n ns t).1)

octets_back : (d : List ℕ) → T (are_bytes d) → octets_in (meaning_of_all (number_trees d)) ≡ some d
octets_back = naturals_back 255 (omega arith) are_bytes (λ b d t. (both_left (ltb b 256) (are_bytes d) t, both_right (ltb b 256) (are_bytes d) t))

counters_back : (ns : List ℕ) → T (are_below (2 ^ 32) ns) → naturals_in 0xFFFFFFFF (meaning_of_all (number_trees ns)) ≡ some ns
counters_back = naturals_back 0xFFFFFFFF (omega arith) (are_below (2 ^ 32)) (λ n ns t. (both_left (ltb n (2 ^ 32)) (are_below (2 ^ 32) ns) t, both_right (ltb n (2 ^ 32)) (are_below (2 ^ 32) ns) t))

-- an array of arrays
module _ (most : ℕ) where
  piece_back : (d : List ℕ) → T (leb (length d) most && are_bytes d) → piece_in most (meaning_of (numbers_tree d)) ≡ some d
  unfolding array_tree meaning_of
  piece_back d t =
      rw (octets_back d (both_right (leb (length d) most) (are_bytes d) t), ← is_true (leb (length d) most) (both_left (leb (length d) most) (are_bytes d) t))

  pieces_back : (ds : List (List ℕ)) → T (are_pieces most ds) → pieces_in most (meaning_of_all (piece_trees ds)) ≡ some ds
  unfolding pieces_in piece_trees are_pieces meaning_of
  pieces_back [] t = refl
  pieces_back (d ∷ ds) t =
      rw (
        piece_back d (both_left (leb (length d) most && are_bytes d) (are_pieces most ds) t),
        pieces_back ds (both_right (leb (length d) most && are_bytes d) (are_pieces most ds) t),
      )

array_back : (lo hi : ℕ) (d : List ℕ) → T (is_sized lo hi d && are_bytes d)
    → judge (Kind.arrays lo hi) (meaning_of (tree_of (Kind.arrays lo hi) (Value.string d))) ≡ some (Value.string d)
unfolding judge tree_of array_tree meaning_of
array_back lo hi d t =
    rw (octets_back d (both_right (is_sized lo hi d) (are_bytes d) t)) (passed (is_sized lo hi d) (Value.string d) (both_left (is_sized lo hi d) (are_bytes d) t))

counts_back : (many : ℕ) (ns : List ℕ) → T (in_bounds (Kind.counters many) (Value.counts ns))
    → judge (Kind.counters many) (meaning_of (tree_of (Kind.counters many) (Value.counts ns))) ≡ some (Value.counts ns)
unfolding judge tree_of array_tree meaning_of
counts_back many ns t =
    rw (counters_back ns (both_right (leb (length ns) many) (are_below (2 ^ 32) ns) t))
    (passed (leb (length ns) many) (Value.counts ns) (both_left (leb (length ns) many) (are_below (2 ^ 32) ns) t))

strings_back : (many most all : ℕ) (ds : List (List ℕ)) → T (in_bounds (Kind.pieces many most all) (Value.strings ds))
    → judge (Kind.pieces many most all) (meaning_of (tree_of (Kind.pieces many most all) (Value.strings ds))) ≡ some (Value.strings ds)
unfolding judge tree_of array_tree meaning_of
strings_back many most all ds t =
    let sized = leb (length ds) many && leb (length (strung ds)) all in
    rw (pieces_back most ds (both_right sized (are_pieces most ds) t)) (passed sized (Value.strings ds) (both_left sized (are_pieces most ds) t))

by_sort : {k : Kind} {v : Value} → Sorted k v → T (is_held k) → length (string_of v) < 2 ^ 32 → T (in_bounds k v)
    → judge k (meaning_of (tree_of k v)) ≡ some (kept_by k v)
unfolding judge tree_of
by_sort (whole lo hi z) h l t = whole_back lo hi z h t
by_sort (real x) h l t = rw (real_back x t)
by_sort (single x) h l t =
    rw (real_back x (both_left (is_real x) (holds binary32 x) t)) (passed (holds binary32 x) (Value.figure x) (both_right (is_real x) (holds binary32 x) t))
by_sort (flag b) h l t = rw (mark_means b)
by_sort (position x y z) h l t = place_back x y z t
by_sort (array lo hi d) h l t = array_back lo hi d t
by_sort (counters many ns) h l t = counts_back many ns t
by_sort (pieces many most all ds) h l t = strings_back many most all ds t
by_sort (text lo hi d) h l t = rw (text_means d l) (passed (is_sized lo hi d) (Value.string d) t)
by_sort (version a b c) h l t =
    let u = both_right (leb a 65535) (leb b 65535 && leb c 65535) t in
    rw (text_means (version_text a b c) (omega (arith, version_length a b c)))
    (version_back a b c (leb→le a 65535 (both_left (leb a 65535) (leb b 65535 && leb c 65535) t))
    (leb→le b 65535 (both_left (leb b 65535) (leb c 65535) u)) (leb→le c 65535 (both_right (leb b 65535) (leb c 65535) u)))
by_sort (word d) h l t = rw (text_means d l)

pub back_of : (k : Kind) (v : Value) → T (is_held k) → length (string_of v) < 2 ^ 32 → T (within k v) → judge k (meaning_of (tree_of k v)) ≡ some (kept_by k v)
back_of k v h l t = by_sort (sorted k v t) h l (bounds k v t)
