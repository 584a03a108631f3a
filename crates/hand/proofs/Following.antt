-- No byte at hand is lost: neither where bytes are passed over, nor where the rest goes to the front and a piece is read behind it. Assumes nothing.
use mathlib.Core.{Path.◌≡◌, Path.sym, Path.ap, Path.◌∙◌, List.List, List.[], List.◌++◌}
use Prim.Native.Nat.{ℕ, ◌+◌, ◌-◌, ◌≤◌, min}
use native.Mathlib.Nat.{min-eq_left}
use native.Mathlib.Omega.{arith}
use lib.{ListN.length, ListN.take, ListN.drop}
use lib.Seq.{take-add}
use borrow.Author.Tests.{le-leb}
use Rattle.octets.proofs.Places.{append-nil}
use Rattle.hand.specs.Code.Part.{part_of, Sound, Follows}

part_is : (d : List ℕ) (from to : ℕ) → from ≤ to → to ≤ length d → part_of d from to ≡ take (to - from) (drop from d)
unfolding part_of
part_is d from to h l = simp (le-leb from to h, le-leb to (length d) l)

-- nothing more was read
pub same_follows : (d : List ℕ) (from to : ℕ) → Sound d from to → Follows (part_of d from to) d from to
same_follows d from to s = record { sound = s; more = []; same = sym (append-nil (part_of d from to)) }

-- the rest is at the front, and a piece behind it
module _ (d e f : List ℕ) (from to n got : ℕ) (c : n ≡ min to (length d) - from) (g : take n e ≡ take n (drop from d))
    (a : length e ≡ length d) (b : length f ≡ length e) (t : take (min n (length e)) f ≡ take (min n (length e)) e) (m : ℕ) (q : m ≡ min (n + got) (length f)) where
  module _ (s : Sound d from to) where
    count : n ≡ to - from
    count = let o = s.ordered in let p = s.there in omega arith

    pub fits : n ≤ length e
    fits = let p = s.there in omega (arith, count)

    front : take n f ≡ take n e
    front = rw (min-eq_left fits) at t

    behind : n ≤ m
    behind = omega (arith, fits)

    pub parted : part_of f 0 m ≡ part_of d from to ++ take (m - n) (drop n f)
    parted =
        part_is f 0 m (omega arith) (omega arith)
        ∙ ap (λ k. take k f) (let h = behind in let z : m - 0 ≡ n + (m - n) = omega arith in z)
        ∙ take-add n (m - n) f
        ∙ ap (λ l. l ++ take (m - n) (drop n f)) (front ∙ g ∙ ap (λ k. take k (drop from d)) count ∙ sym (part_is d from to s.ordered s.there))

    pub refilled : Follows (part_of d from to) f 0 m
    refilled = record { sound = record { ordered = omega arith; there = omega arith }; more = take (m - n) (drop n f); same = parted }

-- the rest is at the front, and the read behind it failed
module _ (d e f : List ℕ) (from to n : ℕ) (c : n ≡ min to (length d) - from) (g : take n e ≡ take n (drop from d))
    (a : length e ≡ length d) (b : length f ≡ length e) (t : take (min n (length e)) f ≡ take (min n (length e)) e) (s : Sound d from to) where
  pub not_read : Follows (part_of d from to) f 0 n
  not_read = let q : n ≡ min (n + 0) (length f) = (let p = s.there in omega arith) in refilled d e f from to n 0 c g a b t n q s

-- bytes are passed over
module _ (d : List ℕ) (from to used v : ℕ) (q : v ≡ min (from + used) (length d)) where
  passed : Sound d from to → used ≤ to - from → v ≡ from + used
  passed s u = let o = s.ordered in let p = s.there in omega arith

  pub passed_sound : Sound d from to → used ≤ to - from → Sound d v to
  passed_sound s u = let o = s.ordered in record { ordered = omega (arith, passed s u); there = s.there }

  pub turned_same : Sound d from to → used ≤ to - from → Follows (part_of d (from + used) to) d v to
  turned_same s u = rw (passed s u) (same_follows d (from + used) to (rw (passed s u) at (passed_sound s u)))

  -- the text is written in between, which leaves the hand as it is
  module _ (a b : ℕ) (g : a ≡ v) (h : b ≡ to) where
    pub turned_written : Sound d from to → used ≤ to - from → Follows (part_of d (from + used) to) d a b
    turned_written s u = rw (g, h) (turned_same s u)

    pub turned_on : (e : List ℕ) (from2 to2 : ℕ) → (Sound d a b → Follows (part_of d a b) e from2 to2) → Sound d from to → used ≤ to - from
        → Follows (part_of d (from + used) to) e from2 to2
    turned_on e from2 to2 f s u = rw (passed s u) at ((rw (g, h) at f) (passed_sound s u))

pub ruleset turning = (turned_same, turned_written, turned_on)
