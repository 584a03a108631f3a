-- The counters and lengths that are lent, from the last to the first: the first place of a counter among those that are left, and the sum of the lengths that are
-- left. Each law in the shape of a need of the code. Assumes nothing.
use mathlib.Core.{Path.◌≡◌, Path.refl, Path.sym, Path.◌∙◌}
use mathlib.Core.Bool.{Bool, true, false, and-true}
use mathlib.Core.List.{List, [], ◌∷◌}
use Prim.Native.Nat.{ℕ, zero, suc, ◌+◌, ◌-◌, ◌*◌, ◌≤◌, ◌<◌}
use native.Mathlib.Nat.{sub_self, sub-zero, zero-add}
use native.Mathlib.Omega.{arith}
use lib.{Dec.eqb, Dec.leb, ListN.length, ListN.take, ListN.drop, ListN.get_or, ListN.get_or-eq_default}
use mir.Syntax.{w64}
use mir.Val.{Fits}
use borrow.Author.Tests.{leb-true, leb-false}
use Rattle.octets.specs.{Choice.either, Number.little_at, Number.if_there, Pieces.counters_from, Pieces.sum_of}
use Rattle.octets.proofs.Reading.{Told, byte_wide, if_there_lem, if_lacking}
use Rattle.forms.proofs.Downlinks.{counters_length, lengths_left, length_first}
use Rattle.queue.specs.{Entry.place_of, Code.Slots.or_behind}

-- a number past the end is 0
none_past : (d : List ℕ) (at n : ℕ) → length d ≤ at → little_at d at n ≡ 0
unfolding little_at
none_past d at zero h = refl
none_past d at (suc n) h = rw (none_past d (at + 1) n (omega arith), get_or-eq_default d 0 h)

-- so a counter is read whole or it is 0
counter_read : (d : List ℕ) (j : ℕ) → length d ≡ 880 → if_there d (4 * j) 4 (little_at d (4 * j) 4) ≡ little_at d (4 * j) 4
counter_read d j e = go (leb (4 * j + 4) (length d)) refl
  where
    go : (b : Bool) → leb (4 * j + 4) (length d) ≡ b → if_there d (4 * j) 4 (little_at d (4 * j) 4) ≡ little_at d (4 * j) 4
    go true p = if_there_lem d (4 * j) 4 (little_at d (4 * j) 4) (omega arith) (leb-true (4 * j + 4) (length d) p)
    go false p =
        let h = leb-false (4 * j + 4) (length d) p in
        if_lacking d (4 * j) 4 (little_at d (4 * j) 4) h ∙ sym (none_past d (4 * j) 4 (omega arith))

-- a place among counters, or one past them
pub place_few : (k : ℕ) (cs : List ℕ) → place_of k cs ≤ length cs
unfolding place_of
place_few k [] = omega arith
place_few k (c ∷ cs) = go (eqb c k) (place_few k cs)
  where
    go : (b : Bool) → place_of k cs ≤ length cs → either b (λ _. 0) (λ _. suc (place_of k cs)) ≤ suc (length cs)
    go true h = omega arith
    go false h = omega arith

behind : (b : Bool) (i found m : ℕ) → found ≡ i + 1 + m → either b (λ _. i) (λ _. found) ≡ i + either b (λ _. 0) (λ _. suc m)
behind true i found m e = omega arith
behind false i found m e = omega arith

module _ (d : List ℕ) (n k : ℕ) where
  pub counter_none : n ≡ n + place_of k (counters_from d (n - n) (4 * n))
  unfolding counters_from place_of
  counter_none = rw sub_self (omega arith)

  module _ (i found : ℕ) (e : found ≡ i + place_of k (counters_from d (n - i) (4 * i))) where
    pub counter_turn : 0 < i → i ≤ n → length d ≡ 880 → (x f : ℕ) (b : Bool) → x ≡ if_there d (4 * (i - 1)) 4 (little_at d (4 * (i - 1)) 4) → f ≡ or_behind b (i - 1) found → b ≡ eqb x k
        → f ≡ i - 1 + place_of k (counters_from d (n - (i - 1)) (4 * (i - 1)))
    unfolding counters_from place_of
    counter_turn h l z x f b p q y =
        let j : n - (i - 1) ≡ suc (n - i) = omega arith in
        let a : 4 * (i - 1) + 4 ≡ 4 * i = omega arith in
        let r : x ≡ little_at d (4 * (i - 1)) 4 = p ∙ counter_read d (i - 1) z in
        rw (j, a, q, y, r) (behind (eqb (little_at d (4 * (i - 1)) 4) k) (i - 1) found (place_of k (counters_from d (n - i) (4 * i))) (omega arith))

    pub counter_done : i ≤ 0 → found ≡ place_of k (counters_from d n 0)
    counter_done h =
        let z : i ≡ 0 = omega arith in
        rw (z, sub-zero, zero-add) at e

    pub counter_few : i ≤ 0 → found ≤ n
    counter_few h = omega (arith, counter_done h, place_few k (counters_from d n 0), counters_length d n 0)

pub ruleset counters = (and-true, counter_none, counter_turn, counter_done, counter_few, arith)

module _ (d : List ℕ) (n : ℕ) where
  pub lengths_none : 0 ≡ sum_of (lengths_left d n n)
  unfolding sum_of
  lengths_none = rw sub_self

  module _ (i sum : ℕ) (e : sum ≡ sum_of (lengths_left d n i)) where
    pub lengths_turn : 0 < i → i ≤ n → 64 + n ≤ length d → (x : ℕ) → x ≡ get_or d (64 + (i - 1)) 0 → sum + x ≡ sum_of (lengths_left d n (i - 1))
    unfolding sum_of
    lengths_turn h l z x p =
        let j : i - 1 + 1 ≡ i = omega arith in
        rw (length_first d n (i - 1) (omega arith) (omega arith), j) (omega arith)

    pub lengths_done : i ≤ 0 → sum ≡ sum_of (take n (drop 64 d))
    lengths_done h =
        let z : i ≡ 0 = omega arith in
        rw (z, sub-zero) at e

  -- a byte more
  module _ (told : Told d) (i sum : ℕ) (h : 0 < i) (l : i ≤ n) (few : sum ≤ 255 * (n - i)) (x : ℕ) (p : x ≡ get_or d (64 + (i - 1)) 0) where
    pub length_more : sum + x ≤ 255 * (n - (i - 1))
    length_more = omega (arith, (told (64 + (i - 1))).fits)

    pub length_fits : n ≤ 255 → Fits w64 (sum + x)
    length_fits m = record { fits = omega (arith, (told (64 + (i - 1))).fits) }

pub ruleset lengths = (byte_wide, lengths_none, lengths_turn, lengths_done, length_more, length_fits, arith)
