-- The shortest head of a text, an array and a map states its length, which may be up to 2^32 - 1, and has few bytes.
-- By the cases of the length; arrays and maps once, over the lead bytes of either. Assumes nothing.
use mathlib.Core.{Path.◌≡◌, Path.refl, List.[]}
use Prim.Native.Nat.{ℕ, ◌+◌, ◌*◌, ◌^◌, ◌≤◌, ◌<◌}
use native.Mathlib.Omega.{arith}
use lib.ListN.{length}
use Rattle.octets.specs.{Number.big_at, Number.big, Bytes.big_bytes}
use Rattle.octets.proofs.{Widths.bits_bytes, Digits.length_big, Digits.big_is}
use Rattle.element.specs.Lead.{Class, shape_of, lead_bytes, row_in}
use Rattle.element.specs.Tree.{Headed}
use Rattle.forms.specs.Shortest.{WrittenHead, width_of, text_head, many_head, array_head, map_head}
use Rattle.shortest.proofs.Rows.{row, below, headed, text_row, text_wide_row, array_row, map_row}
use Rattle.shortest.proofs.Wholes.{by_width, width_least}

-- a lead byte of that class, with as many bytes of length as its row says, which state n
pub record Heads (c : Class) (n : ℕ) (h : WrittenHead) : Type 0 where
  pub wide : ℕ
  pub more : ℕ
  pub row_is : row_in lead_bytes h.lead ≡ row c wide more
  pub size : length h.size ≡ wide
  pub states : n ≡ more + big h.size

pub head_lawful : (c : Class) (n : ℕ) (h : WrittenHead) → Heads c n h → Headed (shape_of c) h.lead h.size n
head_lawful c n h H = headed c H.wide H.more h.lead h.size H.row_is n H.size H.states

-- the length in the lead byte, or in k bytes behind it
module _ (c : Class) (n : ℕ) where
  in_lead : (b : ℕ) → row_in lead_bytes b ≡ row c 0 n → Heads c n (record { lead = b; size = [] })
  unfolding big_at
  in_lead b e = record { wide = 0; more = n; row_is = e; size = refl; states = omega arith }

  behind_lead : (b k : ℕ) → n < 2 ^ (8 * k) → row_in lead_bytes b ≡ row c k 0 → Heads c n (record { lead = b; size = big_bytes k n })
  behind_lead b k h e =
      record { wide = k; more = 0; row_is = e; size = length_big k n; states = omega (arith, big_is k n (rw bits_bytes at h)) }

module _ (n : ℕ) where
  by_text_head : (P : WrittenHead → Type 0) → (n < 32 → P (record { lead = 0xA0 + n; size = [] })) → (32 ≤ n → P (record { lead = 0xD9 + width_of n; size = big_bytes (2 ^ width_of n) n })) → P (text_head n)
  unfolding text_head
  by_text_head P p q = below n 32 (λ _. record { lead = 0xA0 + n; size = [] }) (λ _. record { lead = 0xD9 + width_of n; size = big_bytes (2 ^ width_of n) n }) P p q

  module _ (h : n < 2 ^ 32) where
    -- a text's length takes one of the three lower widths
    by_text_width : (P : ℕ → Type 0) → (n < 2 ^ 8 → P 0) → (2 ^ 8 ≤ n → n < 2 ^ 16 → P 1) → (2 ^ 16 ≤ n → P 2) → P (width_of n)
    by_text_width P p q r = by_width n P p q (λ g l. r g) (λ g. absurd (omega arith))

    pub text_heads : Heads Class.text n (text_head n)
    text_heads =
        by_text_head (Heads Class.text n) (λ l. in_lead Class.text n (0xA0 + n) (text_row n l))
        (λ g. by_text_width (λ i. Heads Class.text n (record { lead = 0xD9 + i; size = big_bytes (2 ^ i) n }))
        (λ l. behind_lead Class.text n 0xD9 1 l (text_wide_row 0 (omega arith)))
        (λ g l. behind_lead Class.text n 0xDA 2 l (text_wide_row 1 (omega arith)))
        (λ g. behind_lead Class.text n 0xDB 4 h (text_wide_row 2 (omega arith))))

    pub text_size : length (text_head n).size ≤ 4
    text_size =
        by_text_head (λ k. length k.size ≤ 4) (λ l. omega arith)
        (λ g. rw (length_big (2 ^ width_of n) n)
        (by_text_width (λ i. 2 ^ i ≤ 4) (λ l. omega arith) (λ g l. omega arith) (λ g. omega arith)))

  pub text_size_few : n < 32 → length (text_head n).size ≡ 0
  text_size_few h = by_text_head (λ k. length k.size ≡ 0) (λ l. refl) (λ g. absurd (omega arith))

  pub text_size_byte : n < 2 ^ 8 → length (text_head n).size ≤ 1
  text_size_byte h =
      by_text_head (λ k. length k.size ≤ 1) (λ l. omega arith)
      (λ g. rw (length_big (2 ^ width_of n) n)
      (by_width n (λ i. 2 ^ i ≤ 1) (λ l. omega arith) (λ g l. absurd (omega arith)) (λ g l. absurd (omega arith)) (λ g. absurd (omega arith))))

  -- as short as any width that holds the length
  pub text_size_least : (i : ℕ) → n < 2 ^ (8 * 2 ^ i) → length (text_head n).size ≤ 2 ^ i
  text_size_least i h =
      by_text_head (λ k. length k.size ≤ 2 ^ i) (λ l. omega arith) (λ g. omega (arith, length_big (2 ^ width_of n) n, width_least i n h))

-- arrays and maps: the lead bytes from `few` on have the length in them, `first` has two bytes of it and the next has four
module _ (few first n : ℕ) where
  by_many_head : (P : WrittenHead → Type 0) → (n < 16 → P (record { lead = few + n; size = [] }))
      → (16 ≤ n → n < 2 ^ 16 → P (record { lead = first; size = big_bytes 2 n })) → (2 ^ 16 ≤ n → P (record { lead = first + 1; size = big_bytes 4 n })) → P (many_head few first n)
  unfolding many_head
  by_many_head P p q r =
      below n 16 (λ _. record { lead = few + n; size = [] }) _ P p
      (λ g. below n (2 ^ 16) (λ _. record { lead = first; size = big_bytes 2 n }) (λ _. record { lead = first + 1; size = big_bytes 4 n }) P (q g) r)

  many_heads : (c : Class) → (n < 16 → row_in lead_bytes (few + n) ≡ row c 0 n) → row_in lead_bytes first ≡ row c 2 0 → row_in lead_bytes (first + 1) ≡ row c 4 0
      → n < 2 ^ 32 → Heads c n (many_head few first n)
  many_heads c none two four h =
      by_many_head (Heads c n) (λ l. in_lead c n (few + n) (none l)) (λ g l. behind_lead c n first 2 l two) (λ g. behind_lead c n (first + 1) 4 h four)

  pub many_size : length (many_head few first n).size ≤ 4
  many_size = by_many_head (λ k. length k.size ≤ 4) (λ l. omega arith) (λ g l. omega (arith, length_big 2 n)) (λ g. omega (arith, length_big 4 n))

  pub many_size_few : n < 16 → length (many_head few first n).size ≡ 0
  many_size_few h = by_many_head (λ k. length k.size ≡ 0) (λ l. refl) (λ g l. absurd (omega arith)) (λ g. absurd (omega arith))

  pub many_size_two : n < 2 ^ 16 → length (many_head few first n).size ≤ 2
  many_size_two h = by_many_head (λ k. length k.size ≤ 2) (λ l. omega arith) (λ g l. omega (arith, length_big 2 n)) (λ g. absurd (omega arith))

module _ (n : ℕ) where
  pub array_heads : n < 2 ^ 32 → Heads Class.array n (array_head n)
  unfolding row_in lead_bytes
  array_heads = many_heads 0x90 0xDC n Class.array (array_row n) refl refl

  pub map_heads : n < 2 ^ 32 → Heads Class.map n (map_head n)
  unfolding row_in lead_bytes
  map_heads = many_heads 0x80 0xDE n Class.map (map_row n) refl refl
