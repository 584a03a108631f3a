-- No lawful encoding of a whole or a text is shorter than its shortest form, and no lawful head of an array or a map than theirs.
-- A row of the table of lead bytes either has the number or the length in the lead byte, within the bounds of the shortest form, or 1, 2, 4 or 8
-- bytes of it: one computed test over the table. A number of so many bytes is below 256 to that power, so the shortest form needs no more.
-- Assumes nothing.
use mathlib.Core.Path.{◌≡◌, refl, sym, ap, subst, ◌∙◌}
use mathlib.Core.Bool.{Bool, true, false, ◌&&◌, ◌||◌}
use mathlib.Core.List.{List, [], ◌∷◌, ◌++◌}
use Prim.Native.Nat.{ℕ, zero, suc, ◌+◌, ◌-◌, ◌*◌, ◌^◌, ◌≤◌, ◌<◌}
use native.Mathlib.Omega.{arith}
use lib.Dec.{T, leb, ltb, eqb, lit<, leb→le, ltb→lt, eqb→eq}
use lib.{IntN.ℤ, IntN.pos, IntN.negsuc, ListN.length, ListN.length-append, Pow.pow_pos, Seq.get_or-append-add}
use borrow.Author.Tests.{leb-true, lt-ltb, le-ltb}
use Rattle.octets.specs.{Choice.either, Number.big_at, Number.big, Bytes.IsBytes, Signed.signed_of}
use Rattle.octets.proofs.Ranges.{ranged, all, both_left, both_right}
use Rattle.octets.proofs.Widths.{big_below, bits_bytes, half_twice}
use Rattle.element.specs.declared.Shape.{Shape, TheVariants.Never, TheVariants.Plain, TheVariants.Text, TheVariants.Array, TheVariants.Map}
use Rattle.element.specs.Lead.{Class, LeadRow, Range, class_of, shape_of, lead_bytes, row_in, head_of}
use Rattle.element.specs.Tree.{Tree, Trees, Pairs, bytes_of, part_count, pair_count, Headed, Lawful}
use Rattle.element.specs.{Tree.Tree.leaf, Tree.Tree.array, Tree.Tree.map, Meaning.Element, Meaning.leaf_of, Meaning.meaning_of}
use Rattle.element.specs.Meaning.Element.{null, truth, whole, single, double, text, octets, typed, list, table}
use Rattle.forms.specs.Shortest.{whole_tree, text_head, text_tree, many_head, array_head, map_head, head_bytes}
use Rattle.shortest.proofs.{Rows.row, Rows.below, Values.text_length_is}
use Rattle.shortest.proofs.Wholes.{pos_alone, negsuc_alone, pos_length, negsuc_length}
use Rattle.shortest.proofs.Heads.{text_size_few, text_size_least, many_size, many_size_few, many_size_two}

one_of_lem : {C : Type 0} (p q : Bool) → T (p || q) → (T p → C) → (T q → C) → C
one_of_lem true q t f g = f t
one_of_lem false q t f g = g t

-- a test of a lead byte and its row that passes at every row of a list, and at no row, passes at every number
module _ (f : ℕ → LeadRow → Bool) where
  abbrev row_at : Range → ℕ → LeadRow
  row_at r b = row r.class (r.wide (b - r.first)) (r.more (b - r.first))

  abbrev passed : List Range → Bool
  passed [] = true
  passed (r ∷ rs) = all (λ b. f b (row_at r b)) r.first (suc (r.last - r.first)) && passed rs

  rowed : ((b : ℕ) → T (f b (row Class.never 0 0))) → (rs : List Range) → T (passed rs) → (b : ℕ) → T (f b (row_in rs b))
  unfolding row_in
  rowed none [] t b = none b
  rowed none (r ∷ rs) t b =
      go (leb r.first b) refl (leb b r.last) refl
      (rowed none rs (both_right (all (λ b. f b (row_at r b)) r.first (suc (r.last - r.first))) (passed rs) t) b)
    where
      go : (x : Bool) → leb r.first b ≡ x → (y : Bool) → leb b r.last ≡ y → T (f b (row_in rs b)) → T (f b (either (x && y) (λ _. row_at r b) (λ _. row_in rs b)))
      go true e true g n =
          ranged (λ b. f b (row_at r b)) r.first (suc (r.last - r.first))
          (both_left (all (λ b. f b (row_at r b)) r.first (suc (r.last - r.first))) (passed rs) t) b
          (leb-true r.first b e) (omega (arith, leb-true r.first b e, leb-true b r.last g))
      go true e false g n = n
      go false e y g n = n

-- m is 2 ^ i for an i below n
abbrev is_power : ℕ → ℕ → Bool
is_power zero m = false
is_power (suc n) m = eqb m (2 ^ n) || is_power n m

power : (n m : ℕ) → T (is_power n m) → (i : ℕ) × (m ≡ 2 ^ i)
power zero m t = absurd t
power (suc n) m t = one_of_lem (eqb m (2 ^ n)) (is_power n m) t (λ e. (n, eqb→eq m (2 ^ n) e)) (power n m)

-- the length in the lead byte, within a bound, or behind it
abbrev textual : ℕ → ℕ → Bool
textual w m = (eqb w 0 && ltb m 32) || (eqb m 0 && is_power 3 w)

abbrev many : ℕ → ℕ → Bool
many w m = (eqb w 0 && ltb m 16) || (eqb m 0 && (eqb w 2 || leb 4 w))

abbrev sized : Shape → ℕ → ℕ → Bool
sized Never w m = true
sized Plain w m = true
sized Text w m = textual w m
sized Array w m = many w m
sized Map w m = many w m

abbrev valued : Class → ℕ → ℕ → ℕ → Bool
valued Class.small b w m = ltb b 0x80 || (leb 0xE0 b && ltb b 0x100)
valued Class.map b w m = true
valued Class.array b w m = true
valued Class.text b w m = true
valued Class.nil b w m = true
valued Class.never b w m = true
valued Class.bool b w m = true
valued Class.bin b w m = true
valued Class.ext b w m = true
valued Class.float32 b w m = true
valued Class.float64 b w m = true
valued Class.unsigned b w m = eqb w 0 && is_power 4 m
valued Class.signed b w m = eqb w 0 && is_power 4 m

all_sized : (b : ℕ) → T (sized (head_of b).shape (head_of b).wide (head_of b).more)
unfolding head_of lead_bytes
all_sized b = rowed (λ b r. sized (shape_of r.class) r.wide r.more) (λ b. tt) lead_bytes tt b

all_valued : (b : ℕ) → T (valued (class_of b) b (head_of b).wide (head_of b).more)
unfolding head_of lead_bytes
all_valued b = rowed (λ b r. valued r.class b r.wide r.more) (λ b. tt) lead_bytes tt b

-- what so many bytes state
module _ (l : List ℕ) (bytes : IsBytes l) where
  none_states : (n m : ℕ) → length l ≡ 0 → n ≡ m + big l → n ≡ m
  unfolding big_at
  none_states n m e h = let z : big l ≡ 0 = ap (big_at l 0) e in omega arith

  states_below : (k : ℕ) → length l ≡ k → big l < 2 ^ (8 * k)
  states_below k e = rw (bits_bytes k, ← e) (big_below l bytes 0 (length l))

  text_least : (w m n : ℕ) → T (textual w m) → length l ≡ w → n ≡ m + big l → length (text_head n).size ≤ length l
  text_least w m n t e h =
      one_of_lem (eqb w 0 && ltb m 32) (eqb m 0 && is_power 3 w) t
      (λ p. let z = eqb→eq w 0 (both_left (eqb w 0) (ltb m 32) p) in
      omega (arith, text_size_few n (omega (arith, ltb→lt m 32 (both_right (eqb w 0) (ltb m 32) p), none_states n m (e ∙ z) h))))
      (λ p. let i = power 3 w (both_right (eqb m 0) (is_power 3 w) p) in
      let k : length l ≡ 2 ^ i.0 = e ∙ i.1 in
      omega (arith, text_size_least n i.0 (omega (arith, states_below (2 ^ i.0) k, eqb→eq m 0 (both_left (eqb m 0) (is_power 3 w) p)))))

  many_least : (few first w m n : ℕ) → T (many w m) → length l ≡ w → n ≡ m + big l → length (many_head few first n).size ≤ length l
  many_least few first w m n t e h =
      one_of_lem (eqb w 0 && ltb m 16) (eqb m 0 && (eqb w 2 || leb 4 w)) t
      (λ p. let z = eqb→eq w 0 (both_left (eqb w 0) (ltb m 16) p) in
      omega (arith, many_size_few few first n (omega (arith, ltb→lt m 16 (both_right (eqb w 0) (ltb m 16) p), none_states n m (e ∙ z) h))))
      (λ p. let z = eqb→eq m 0 (both_left (eqb m 0) (eqb w 2 || leb 4 w) p) in
      one_of_lem (eqb w 2) (leb 4 w) (both_right (eqb m 0) (eqb w 2 || leb 4 w) p)
      (λ q. let k : length l ≡ 2 = e ∙ eqb→eq w 2 q in omega (arith, many_size_two few first n (omega (arith, states_below 2 k))))
      (λ q. omega (arith, leb→le 4 w q, many_size few first n)))

-- what an element's shortest form is at most as long as: k
abbrev Least : ℕ → Element → Type 0
Least k null = Unit {0}
Least k (truth b) = Unit {0}
Least k (whole z) = length (bytes_of (whole_tree z)) ≤ k
Least k (single n) = Unit {0}
Least k (double n) = Unit {0}
Least k (text d) = length (bytes_of (text_tree d)) ≤ k
Least k (octets d) = Unit {0}
Least k (typed t d) = Unit {0}
Least k (list es) = Unit {0}
Least k (table fs) = Unit {0}

-- two's complement of 2 ^ i bytes
least_signed : (i n : ℕ) → n < 2 ^ (8 * 2 ^ i) → length (bytes_of (whole_tree (signed_of (8 * 2 ^ i) n))) ≤ 1 + 2 ^ i
least_signed i n h =
    below n (2 ^ (8 * 2 ^ i - 1)) (λ _. pos n) (λ _. negsuc (2 ^ (8 * 2 ^ i) - suc n)) (λ z. length (bytes_of (whole_tree z)) ≤ 1 + 2 ^ i)
    (λ l. pos_length n i h)
    (λ g. negsuc_length (2 ^ (8 * 2 ^ i) - suc n) i (omega (arith, half_twice (8 * 2 ^ i) (omega (arith, pow_pos i)))))

-- a lead byte alone
least_small : (b : ℕ) → T (valued Class.small b 0 0) → length (bytes_of (whole_tree (signed_of 8 b))) ≤ 1
least_small b t =
    one_of_lem (ltb b 0x80) (leb 0xE0 b && ltb b 0x100) t
    (λ p. let h = ltb→lt b 0x80 p in rw (lt-ltb b 0x80 h) (pos_alone b h))
    (λ p. let g = leb→le 0xE0 b (both_left (leb 0xE0 b) (ltb b 0x100) p) in
    rw (le-ltb b 0x80 (omega arith)) (negsuc_alone (0x100 - suc b) (omega arith)))

module _ (b : ℕ) (l d : List ℕ) (few : IsBytes l) (bytes : IsBytes d) (w m : ℕ) (wide : length l ≡ w) (states : length d ≡ m + big l) where
  -- the body of a number: no bytes of length, and 2 ^ i of body
  body : T (eqb w 0 && is_power 4 m) → (i : ℕ) × (length d ≡ 2 ^ i) × (big d < 2 ^ (8 * 2 ^ i))
  body t =
      let i = power 4 m (both_right (eqb w 0) (is_power 4 m) t) in
      let e = none_states l few (length d) m (wide ∙ eqb→eq w 0 (both_left (eqb w 0) (is_power 4 m) t)) states ∙ i.1 in
      (i.0, e, states_below d bytes (2 ^ i.0) e)

  least_leaf : (c : Class) → T (sized (shape_of c) w m) → T (valued c b w m) → Least (suc (length l + length d)) (leaf_of c b d)
  least_leaf Class.small s t = omega (arith, least_small b t)
  least_leaf Class.map s t = tt
  least_leaf Class.array s t = tt
  least_leaf Class.text s t = omega (arith, text_length_is d, text_least l few w m (length d) s wide states)
  least_leaf Class.nil s t = tt
  least_leaf Class.never s t = tt
  least_leaf Class.bool s t = tt
  least_leaf Class.bin s t = tt
  least_leaf Class.ext s t = tt
  least_leaf Class.float32 s t = tt
  least_leaf Class.float64 s t = tt
  least_leaf Class.unsigned s t = let i = body t in omega (arith, pos_length (big d) i.0 i.2)
  least_leaf Class.signed s t =
      let i = body t in
      omega (arith, subst (λ (k : ℕ). length (bytes_of (whole_tree (signed_of (8 * k) (big d)))) ≤ 1 + k) (sym i.1) (least_signed i.0 (big d) i.2))

bytes_front : (l t : List ℕ) → IsBytes (l ++ t) → IsBytes l
bytes_front [] t bs k = lit< tt
bytes_front (a ∷ l) t bs zero = bs zero
bytes_front (a ∷ l) t bs (suc k) = bytes_front l t (λ j. bs (suc j)) k

least : (w : Tree) → Lawful w → IsBytes (bytes_of w) → Least (length (bytes_of w)) (meaning_of w)
unfolding meaning_of bytes_of Lawful head_of
least (leaf b l d) L bs =
    rw (length-append l d)
    (least_leaf b l d (bytes_front l d (λ k. bs (suc k))) (λ k. subst (λ (x : ℕ). x < 256) (get_or-append-add l d k 0) (bs (suc (length l + k))))
    (head_of b).wide (head_of b).more L.0.wide L.0.states (class_of b) (all_sized b) (all_valued b))
least (array b l ts) L bs = tt
least (map b l ps) L bs = tt

-- among encodings in bytes: the number 1000 in place of a byte would say more than a byte can
pub no_shorter_whole : (z : ℤ) (w : Tree) → Lawful w → IsBytes (bytes_of w) → meaning_of w ≡ whole z → length (bytes_of (whole_tree z)) ≤ length (bytes_of w)
no_shorter_whole z w L bytes e = subst (Least (length (bytes_of w))) e (least w L bytes)

pub no_shorter_text : (d : List ℕ) (w : Tree) → Lawful w → IsBytes (bytes_of w) → meaning_of w ≡ text d → length (bytes_of (text_tree d)) ≤ length (bytes_of w)
no_shorter_text d w L bytes e = subst (Least (length (bytes_of w))) e (least w L bytes)

-- the heads of arrays and maps, whatever they hold
module _ (b : ℕ) (l : List ℕ) where
  least_head : (shape : Shape) (few first n : ℕ) → IsBytes l → Headed shape b l n → (T (sized shape (head_of b).wide (head_of b).more) → T (many (head_of b).wide (head_of b).more))
      → length (head_bytes (many_head few first n)) ≤ suc (length l)
  least_head shape few first n bytes H f =
      let t = f (subst (λ (s : Shape). T (sized s (head_of b).wide (head_of b).more)) H.shape_is (all_sized b)) in
      omega (arith, many_least l bytes few first (head_of b).wide (head_of b).more n t H.wide H.states)

  pub no_shorter_array : (ts : Trees) → Lawful (array b l ts) → IsBytes l → length (head_bytes (array_head (part_count ts))) ≤ suc (length l)
  unfolding Lawful
  no_shorter_array ts L bytes = least_head Array 0x90 0xDC (part_count ts) bytes L.0 (λ t. t)

  pub no_shorter_map : (ps : Pairs) → Lawful (map b l ps) → IsBytes l → length (head_bytes (map_head (pair_count ps))) ≤ suc (length l)
  unfolding Lawful
  no_shorter_map ps L bytes = least_head Map 0x80 0xDE (pair_count ps) bytes L.0 (λ t. t)
