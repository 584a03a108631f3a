-- A whole in its shortest form is lawful and means that whole, from -2^63 to 2^64 - 1, and is one element of at most nine bytes.
-- Once over the place i of a width: 256 ^ (2 ^ i) is 2 ^ (8 * 2 ^ i), so a number that the width holds reads back. Assumes nothing.
use mathlib.Core.Path.{◌≡◌, refl, ap, ap₂, ◌∙◌}
use mathlib.Core.List.{List, []}
use Prim.Native.Nat.{ℕ, zero, suc, ◌+◌, ◌-◌, ◌*◌, ◌^◌, ◌≤◌, ◌<◌}
use native.Mathlib.Omega.{arith}
use lib.{IntN.ℤ, IntN.pos, IntN.negsuc, ListN.length, Pow.pow_mono, Pow.pow_pos}
use borrow.Author.Tests.{lt-ltb, le-ltb}
use Rattle.octets.specs.{Number.big_at, Number.big, Bytes.big_bytes, Signed.signed_of}
use Rattle.octets.proofs.{Widths.bits_bytes, Widths.half_twice, Digits.length_big, Digits.big_is}
use Rattle.element.specs.{Lead.Class, Tree.Tree.leaf, Meaning.meaning_of, Meaning.Element.whole}
use Rattle.element.specs.Tree.{Tree, bytes_of, count_of, depth_of, Lawful}
use Rattle.forms.specs.Shortest.{width_of, leaf_wide, whole_tree}
use Rattle.shortest.proofs.Rows.{below, leaf_lawful, leaf_means, small_row, negative_row, word_row, id_row}

-- the width of a number, and what is known at each
pub by_width : (n : ℕ) (P : ℕ → Type 0) → (n < 2 ^ 8 → P 0) → (2 ^ 8 ≤ n → n < 2 ^ 16 → P 1) → (2 ^ 16 ≤ n → n < 2 ^ 32 → P 2) → (2 ^ 32 ≤ n → P 3) → P (width_of n)
by_width n P p q r s =
    below n (2 ^ 8) (λ _. 0) _ P p
    (λ g. below n (2 ^ 16) (λ _. 1) _ P (q g) (λ g. below n (2 ^ 32) (λ _. 2) (λ _. 3) P (r g) s))

pub width_few : (n : ℕ) → width_of n < 4
width_few n = by_width n (λ i. i < 4) (λ h. omega arith) (λ g h. omega arith) (λ g h. omega arith) (λ g. omega arith)

pub width_holds : (n : ℕ) → n < 2 ^ 64 → n < 2 ^ (8 * 2 ^ width_of n)
width_holds n h = by_width n (λ i. n < 2 ^ (8 * 2 ^ i)) (λ l. l) (λ g l. l) (λ g l. l) (λ g. h)

-- no narrower width holds it
pub width_least : (i n : ℕ) → n < 2 ^ (8 * 2 ^ i) → 2 ^ width_of n ≤ 2 ^ i
width_least i n h = pow_mono (least i h)
  where
    least : (i : ℕ) → n < 2 ^ (8 * 2 ^ i) → width_of n ≤ i
    least zero h = by_width n (λ j. j ≤ 0) (λ l. omega arith) (λ g l. absurd (omega arith)) (λ g l. absurd (omega arith)) (λ g. absurd (omega arith))
    least (suc zero) h = by_width n (λ j. j ≤ 1) (λ l. omega arith) (λ g l. omega arith) (λ g l. absurd (omega arith)) (λ g. absurd (omega arith))
    least (suc (suc zero)) h = by_width n (λ j. j ≤ 2) (λ l. omega arith) (λ g l. omega arith) (λ g l. omega arith) (λ g. absurd (omega arith))
    least (suc (suc (suc i))) h = omega (arith, width_few n)

-- two's complement of j bytes reads back
signed_back : (j k : ℕ) → 0 < j → 2 * k + 1 < 2 ^ (8 * j) → signed_of (8 * j) (2 ^ (8 * j) - suc k) ≡ negsuc k
signed_back j k p h =
    let e = half_twice (8 * j) (omega arith) in
    let n = 2 ^ (8 * j) - suc k in
    simp (le-ltb n (2 ^ (8 * j - 1)) (omega arith)) (ap negsuc (omega arith))

module _ (i : ℕ) (h : i < 4) where
  module _ (n : ℕ) where
    pub word_lawful : Lawful (leaf_wide 0xCC i n)
    unfolding big_at
    word_lawful = leaf_lawful Class.unsigned 0 (2 ^ i) (0xCC + i) [] (word_row i h) (big_bytes (2 ^ i) n) tt refl (omega (arith, length_big (2 ^ i) n))

    pub id_lawful : Lawful (leaf_wide 0xD0 i n)
    unfolding big_at
    id_lawful = leaf_lawful Class.signed 0 (2 ^ i) (0xD0 + i) [] (id_row i h) (big_bytes (2 ^ i) n) tt refl (omega (arith, length_big (2 ^ i) n))

    held : n < 2 ^ (8 * 2 ^ i) → big (big_bytes (2 ^ i) n) ≡ n
    held l = big_is (2 ^ i) n (rw bits_bytes at l)

    pub word_means : n < 2 ^ (8 * 2 ^ i) → meaning_of (leaf_wide 0xCC i n) ≡ whole (pos n)
    word_means l =
        leaf_means Class.unsigned 0 (2 ^ i) (0xCC + i) [] (word_row i h) (big_bytes (2 ^ i) n) ∙ ap (λ (m : ℕ). whole (pos m)) (held l)

  pub id_means : (k : ℕ) → 2 * k + 1 < 2 ^ (8 * 2 ^ i) → meaning_of (leaf_wide 0xD0 i (2 ^ (8 * 2 ^ i) - suc k)) ≡ whole (negsuc k)
  id_means k l =
      let n = 2 ^ (8 * 2 ^ i) - suc k in
      leaf_means Class.signed 0 (2 ^ i) (0xD0 + i) [] (id_row i h) (big_bytes (2 ^ i) n)
      ∙ ap₂ (λ (j m : ℕ). whole (signed_of (8 * j) m)) (length_big (2 ^ i) n) (held n (omega arith))
      ∙ ap whole (signed_back (2 ^ i) k (pow_pos i) l)

module _ (n : ℕ) where
  -- a lead byte alone, or the width that holds it
  pub by_pos : (P : Tree → Type 0) → (n < 0x80 → P (leaf n [] [])) → (0x80 ≤ n → P (leaf_wide 0xCC (width_of n) n)) → P (whole_tree (pos n))
  unfolding whole_tree
  by_pos P p q = below n 0x80 (λ _. leaf n [] []) (λ _. leaf_wide 0xCC (width_of n) n) P p q

  pub by_negsuc : (P : Tree → Type 0) → (n < 0x20 → P (leaf (0xFF - n) [] [])) → (0x20 ≤ n → P (leaf_wide 0xD0 (width_of (2 * n + 1)) (2 ^ (8 * 2 ^ width_of (2 * n + 1)) - suc n))) → P (whole_tree (negsuc n))
  unfolding whole_tree
  by_negsuc P p q = below n 0x20 (λ _. leaf (0xFF - n) [] []) (λ _. leaf_wide 0xD0 (width_of (2 * n + 1)) (2 ^ (8 * 2 ^ width_of (2 * n + 1)) - suc n)) P p q

  pub pos_lawful : Lawful (whole_tree (pos n))
  unfolding big_at
  pos_lawful = by_pos Lawful (λ h. leaf_lawful Class.small 0 0 n [] (small_row n h) [] tt refl refl) (λ g. word_lawful (width_of n) (width_few n) n)

  pub negsuc_lawful : Lawful (whole_tree (negsuc n))
  unfolding big_at
  negsuc_lawful =
      by_negsuc Lawful (λ h. leaf_lawful Class.small 0 0 (0xFF - n) [] (negative_row n h) [] tt refl refl)
      (λ g. id_lawful (width_of (2 * n + 1)) (width_few (2 * n + 1)) (2 ^ (8 * 2 ^ width_of (2 * n + 1)) - suc n))

  pub pos_means : n < 2 ^ 64 → meaning_of (whole_tree (pos n)) ≡ whole (pos n)
  pos_means h =
      by_pos (λ t. meaning_of t ≡ whole (pos n))
      (λ l. leaf_means Class.small 0 0 n [] (small_row n l) [] ∙ ap whole (simp (lt-ltb n 0x80 l)))
      (λ g. word_means (width_of n) (width_few n) n (width_holds n h))

  pub negsuc_means : n < 2 ^ 63 → meaning_of (whole_tree (negsuc n)) ≡ whole (negsuc n)
  negsuc_means h =
      by_negsuc (λ t. meaning_of t ≡ whole (negsuc n))
      (λ l. let e : 0x100 - suc n ≡ 0xFF - n = omega arith in leaf_means Class.small 0 0 (0xFF - n) [] (negative_row n l) [] ∙ ap whole (rw (← e) (signed_back 1 n (omega arith) (omega arith))))
      (λ g. id_means (width_of (2 * n + 1)) (width_few (2 * n + 1)) n (width_holds (2 * n + 1) (omega arith)))

pub whole_lawful : (z : ℤ) → Lawful (whole_tree z)
whole_lawful (pos n) = pos_lawful n
whole_lawful (negsuc k) = negsuc_lawful k

-- every whole is a leaf with no length, of at most eight bytes
few : (i n : ℕ) → i < 4 → length (big_bytes (2 ^ i) n) ≤ 8
few i n h =
    let l : i ≤ 3 = omega arith in
    let m : 2 ^ i ≤ 8 = pow_mono l in
    omega (arith, length_big (2 ^ i) n)

pub by_whole : (z : ℤ) (P : Tree → Type 0) → ((b : ℕ) (d : List ℕ) → length d ≤ 8 → P (leaf b [] d)) → P (whole_tree z)
by_whole (pos n) P p =
    by_pos n P (λ h. p n [] (omega arith)) (λ g. p (0xCC + width_of n) (big_bytes (2 ^ width_of n) n) (few (width_of n) n (width_few n)))
by_whole (negsuc k) P p =
    let i = width_of (2 * k + 1) in
    let n = 2 ^ (8 * 2 ^ i) - suc k in
    by_negsuc k P (λ h. p (0xFF - k) [] (omega arith)) (λ g. p (0xD0 + i) (big_bytes (2 ^ i) n) (few i n (width_few (2 * k + 1))))

module _ (z : ℤ) where
  pub whole_count : count_of (whole_tree z) ≡ 1
  unfolding count_of
  whole_count = by_whole z (λ t. count_of t ≡ 1) (λ b d h. refl)

  pub whole_depth : depth_of (whole_tree z) ≡ 1
  unfolding depth_of
  whole_depth = by_whole z (λ t. depth_of t ≡ 1) (λ b d h. refl)

  pub whole_length : length (bytes_of (whole_tree z)) ≤ 9
  unfolding bytes_of
  whole_length = by_whole z (λ t. length (bytes_of t) ≤ 9) (λ b d h. omega arith)

-- how long a whole is: a lead byte alone, or any width that holds it
module _ (n : ℕ) where
  pub pos_alone : n < 0x80 → length (bytes_of (whole_tree (pos n))) ≤ 1
  unfolding bytes_of
  pos_alone h = by_pos n (λ t. length (bytes_of t) ≤ 1) (λ l. omega arith) (λ g. absurd (omega arith))

  pub negsuc_alone : n < 0x20 → length (bytes_of (whole_tree (negsuc n))) ≤ 1
  unfolding bytes_of
  negsuc_alone h = by_negsuc n (λ t. length (bytes_of t) ≤ 1) (λ l. omega arith) (λ g. absurd (omega arith))

  pub pos_length : (i : ℕ) → n < 2 ^ (8 * 2 ^ i) → length (bytes_of (whole_tree (pos n))) ≤ 1 + 2 ^ i
  unfolding bytes_of
  pos_length i h =
      by_pos n (λ t. length (bytes_of t) ≤ 1 + 2 ^ i) (λ l. omega (arith, pow_pos i))
      (λ g. omega (arith, length_big (2 ^ width_of n) n, width_least i n h))

  pub negsuc_length : (i : ℕ) → 2 * n + 1 < 2 ^ (8 * 2 ^ i) → length (bytes_of (whole_tree (negsuc n))) ≤ 1 + 2 ^ i
  unfolding bytes_of
  negsuc_length i h =
      let j = width_of (2 * n + 1) in
      by_negsuc n (λ t. length (bytes_of t) ≤ 1 + 2 ^ i) (λ l. omega (arith, pow_pos i))
      (λ g. omega (arith, length_big (2 ^ j) (2 ^ (8 * 2 ^ j) - suc n), width_least i (2 * n + 1) h))
