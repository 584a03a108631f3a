-- A downlink's counters and data entries, each from its place in the lent bytes: those that are left, put behind those that stand, make all.
-- Each law in the shape of a need of the code. Assumes nothing.
use mathlib.Core.Path.{◌≡◌, refl, sym, ap, ◌∙◌}
use mathlib.Core.List.{List, [], ◌∷◌}
use Prim.Native.Nat.{ℕ, zero, suc, ◌+◌, ◌-◌, ◌*◌, ◌^◌, ◌≤◌, ◌<◌}
use native.Mathlib.Nat.{sub-zero}
use native.Mathlib.Omega.{arith}
use lib.IntN.{pos}
use lib.ListN.{length, take, drop, get_or, length-drop}
use lib.Seq.{drop-cons, drop-drop, get_or-take, get_or-drop, length-take-le}
use mir.Syntax.{w64}
use mir.Val.{Fits}
use borrow.Author.Rules.{part_to_end}
use Rattle.octets.specs.Number.{little_at, if_there}
use Rattle.octets.specs.Pieces.{counters_from, counters_lent, cut_by, lengths_lent, pieces_lent, sum_of}
use Rattle.octets.proofs.Reading.{if_there_lem}
use Rattle.forms.specs.Shortest.{array_head, head_bytes}
use Rattle.forms.specs.Code.Put.{Put, put_parts, whole_parts, number_parts, numbers_parts, piece_parts, pieces_parts}
use Rattle.forms.proofs.Putting.{parts_join, parts_then}

-- a head of n parts and what it announces
module _ (o b a : Put) (n : ℕ) (f : b ≡ put_parts (head_bytes (array_head n) ∷ []) o) where
  behind_head : (m : ℕ) (ps : List (List ℕ)) → m ≡ n → a ≡ put_parts ps b → a ≡ put_parts (head_bytes (array_head m) ∷ ps) o
  behind_head m ps e g = rw e (parts_then (head_bytes (array_head n) ∷ []) ps o b a f g)

pub counters_length : (d : List ℕ) (n p : ℕ) → length (counters_from d n p) ≡ n
unfolding counters_from
counters_length d zero p = refl
counters_length d (suc n) p = ap suc (counters_length d n (p + 4))

-- the counters that are left, behind those that are put
module _ (o : Put) (d : List ℕ) (n : ℕ) where
  pub counters_none : put_parts (number_parts (counters_from d (n - 0) (4 * 0))) o ≡ put_parts (number_parts (counters_lent n d)) o
  counters_none = rw sub-zero

  module _ (a : Put) (i : ℕ) (f : put_parts (number_parts (counters_from d (n - i) (4 * i))) a ≡ put_parts (number_parts (counters_lent n d)) o) where
    pub counters_more : (b : Put) (x : ℕ) → x ≡ if_there d (4 * i) 4 (little_at d (4 * i) 4) → b ≡ put_parts (whole_parts (pos x)) a → i < n → n ≤ 16 → 64 ≤ length d
        → put_parts (number_parts (counters_from d (n - (i + 1)) (4 * (i + 1)))) b ≡ put_parts (number_parts (counters_lent n d)) o
    unfolding put_parts number_parts counters_from
    counters_more b x e s l few long =
        let k : n - i ≡ suc (n - (i + 1)) = omega arith in
        let p : 4 * (i + 1) ≡ 4 * i + 4 = omega arith in
        let q : x ≡ little_at d (4 * i) 4 = e ∙ if_there_lem d (4 * i) 4 (little_at d (4 * i) 4) (omega arith) (omega arith) in
        rw (p, s, q) (rw k at f)

    pub counters_all : n ≤ i → a ≡ put_parts (number_parts (counters_lent n d)) o
    unfolding put_parts number_parts counters_from
    counters_all l = let k : n - i ≡ 0 = omega arith in rw k at f

pub ruleset counters = (counters_none, counters_more, counters_all, arith)

pub counters_put : (o b a : Put) (d : List ℕ) (n : ℕ) → b ≡ put_parts (head_bytes (array_head n) ∷ []) o → a ≡ put_parts (number_parts (counters_lent n d)) b → a ≡ put_parts (numbers_parts (counters_lent n d)) o
counters_put o b a d n f g = behind_head o b a n f (length (counters_lent n d)) (number_parts (counters_lent n d)) (counters_length d n 0) g

-- the lengths of the entries from the i-th on
abbrev pub lengths_left : List ℕ → ℕ → ℕ → List ℕ
lengths_left d n i = take (n - i) (drop (64 + i) d)

pub length_first : (d : List ℕ) (n i : ℕ) → i < n → 64 + i < length d → lengths_left d n i ≡ get_or d (64 + i) 0 ∷ lengths_left d n (i + 1)
length_first d n i l h =
    let k : n - i ≡ suc (n - (i + 1)) = omega arith in
    let p : 64 + (i + 1) ≡ suc (64 + i) = omega arith in
    rw (k, p, drop-cons d (64 + i) 0 h)

-- the entry at i: its length, and that it is there
module _ (d : List ℕ) (n i : ℕ) (l : i < n) (few : n ≤ 16) (long : 80 + sum_of (lengths_lent n d) ≤ length d) where
  sum_first : sum_of (lengths_left d n i) ≡ get_or d (64 + i) 0 + sum_of (lengths_left d n (i + 1))
  unfolding sum_of
  sum_first = rw (length_first d n i l (omega arith))

  module _ (from : ℕ) (h : from + sum_of (lengths_left d n i) ≤ length d) where
    pub piece_there : from + get_or d (64 + i) 0 + sum_of (lengths_left d n (i + 1)) ≤ length d
    piece_there = omega (arith, sum_first)

    pub piece_fits : length d < 2 ^ 64 → Fits w64 (from + get_or d (64 + i) 0)
    piece_fits m = record { fits = omega (arith, sum_first) }

-- the entries that are left, behind those that are put
module _ (o : Put) (d : List ℕ) (n : ℕ) where
  pub pieces_none : put_parts (piece_parts (cut_by (lengths_left d n 0) (drop 80 d))) o ≡ put_parts (piece_parts (pieces_lent n d)) o
  pieces_none = rw sub-zero

  module _ (a : Put) (i from : ℕ) (f : put_parts (piece_parts (cut_by (lengths_left d n i) (drop from d))) a ≡ put_parts (piece_parts (pieces_lent n d)) o) where
    pub pieces_more : (b : Put) → b ≡ put_parts (numbers_parts (take (get_or d (64 + i) 0) (take (length d - from) (drop from d)))) a → i < n → n ≤ 16 → 80 + sum_of (lengths_lent n d) ≤ length d
        → put_parts (piece_parts (cut_by (lengths_left d n (i + 1)) (drop (from + get_or d (64 + i) 0) d))) b ≡ put_parts (piece_parts (pieces_lent n d)) o
    unfolding piece_parts cut_by
    pieces_more b s l few long =
        let x = get_or d (64 + i) 0 in
        let ps = piece_parts (cut_by (lengths_left d n (i + 1)) (drop (from + x) d)) in
        rw (s, part_to_end d from)
        (sym (parts_join (numbers_parts (take x (drop from d))) ps a)
        ∙ rw (length_first d n i l (omega arith), drop-drop x from d) at f)

    pub pieces_all : n ≤ i → a ≡ put_parts (piece_parts (pieces_lent n d)) o
    unfolding put_parts piece_parts cut_by
    pieces_all l = let k : n - i ≡ 0 = omega arith in rw k at f

pub pieces_start : (d : List ℕ) (n : ℕ) → 80 + sum_of (lengths_lent n d) ≤ length d → 80 + sum_of (lengths_left d n 0) ≤ length d
pieces_start d n h = rw sub-zero h

-- the sizes that the loop goes over, and a turn at the i-th of them, which is x
abbrev pub sizes : List ℕ → ℕ → List ℕ
sizes d n = take (64 + n - 64) (drop 64 d)

module _ (d : List ℕ) (n i : ℕ) (few : n ≤ 16) (long : 80 + sum_of (lengths_lent n d) ≤ length d) where
  sizes_long : length (sizes d n) ≡ n
  sizes_long =
      let k : 64 + n - 64 ≡ n = omega arith in
      rw k (length-take-le n (drop 64 d) (omega (arith, length-drop 64 d)))

  pub sizes_all : (o a : Put) (from : ℕ) → put_parts (piece_parts (cut_by (lengths_left d n i) (drop from d))) a ≡ put_parts (piece_parts (pieces_lent n d)) o → length (sizes d n) ≤ i → a ≡ put_parts (piece_parts (pieces_lent n d)) o
  sizes_all o a from f l = pieces_all o d n a i from f (omega (arith, sizes_long))

  module _ (l : i < length (sizes d n)) (x : ℕ) (e : x ≡ get_or (sizes d n) i 0) where
    inner : i < n
    inner = omega (arith, sizes_long)

    size_is : get_or (sizes d n) i 0 ≡ get_or d (64 + i) 0
    size_is = get_or-take (64 + n - 64) (drop 64 d) i 0 (omega (arith, inner)) ∙ get_or-drop 64 d i 0

    pub turn_there : (from : ℕ) → from + sum_of (lengths_left d n i) ≤ length d → from + x + sum_of (lengths_left d n (i + 1)) ≤ length d
    turn_there from h = rw (e, size_is) (piece_there d n i inner few long from h)

    pub turn_fits : (from : ℕ) → from + sum_of (lengths_left d n i) ≤ length d → length d < 2 ^ 64 → Fits w64 (from + x)
    turn_fits from h m = rw (e, size_is) (piece_fits d n i inner few long from h m)

    pub turn_put : (o a b : Put) (from : ℕ) → put_parts (piece_parts (cut_by (lengths_left d n i) (drop from d))) a ≡ put_parts (piece_parts (pieces_lent n d)) o
        → b ≡ put_parts (numbers_parts (take (get_or (sizes d n) i 0) (take (length d - from) (drop from d)))) a
        → put_parts (piece_parts (cut_by (lengths_left d n (i + 1)) (drop (from + x) d))) b ≡ put_parts (piece_parts (pieces_lent n d)) o
    turn_put o a b from f q = rw (e, size_is) (pieces_more o d n a i from f b (rw size_is at q) inner few long)

pub ruleset entries = (turn_fits, pieces_start, pieces_none, arith)

cut_length : (ns d : List ℕ) → length (cut_by ns d) ≡ length ns
unfolding cut_by
cut_length [] d = refl
cut_length (n ∷ ns) d = ap suc (cut_length ns (drop n d))

module _ (d : List ℕ) (n : ℕ) (few : n ≤ 16) (long : 80 + sum_of (lengths_lent n d) ≤ length d) where
  pub pieces_length : length (pieces_lent n d) ≡ n
  pieces_length = cut_length (lengths_lent n d) (drop 80 d) ∙ length-take-le n (drop 64 d) (omega (arith, length-drop 64 d))

  pub pieces_put : (o b a : Put) → b ≡ put_parts (head_bytes (array_head n) ∷ []) o → a ≡ put_parts (piece_parts (pieces_lent n d)) b → a ≡ put_parts (pieces_parts (pieces_lent n d)) o
  pieces_put o b a f g = behind_head o b a n f (length (pieces_lent n d)) (piece_parts (pieces_lent n d)) pieces_length g
