-- How many counters and data entries dlDataQue has, and the loop over the entries' lengths, each law in the shape of a need of the code: what is told
-- of the lengths that are left, behind those that are summed, is told of all. Assumes nothing.
use mathlib.Core.Path.{◌≡◌, sym}
use mathlib.Core.Bool.{Bool, true, false, ◌&&◌, and-false, and_assoc}
use mathlib.Core.List.{List, [], ◌∷◌}
use Prim.Native.Nat.{ℕ, ◌+◌, ◌-◌, ◌≤◌, ◌<◌}
use native.Mathlib.Nat.{sub-zero, add_assoc, add-zero}
use native.Mathlib.Omega.{arith}
use lib.{Dec.eqb, Dec.leb, ListN.length, ListN.get_or}
use borrow.Author.Tests.{le-leb, lt-leb}
use Rattle.octets.specs.Pieces.{sum_of, lengths_lent}
use Rattle.forms.proofs.Downlinks.{lengths_left, length_first}
use Rattle.faults.specs.Code.Tests.{counts_fit, lengths_fit, pieces_fit}

-- where there are counters, and where there are none
module _ (depends : Bool) (n : ℕ) where
  pub counts_each : depends ≡ true → (leb 1 n && leb n 16) ≡ counts_fit depends n
  unfolding counts_fit
  counts_each e = rw e

  pub counts_alone : depends ≡ false → eqb n 1 ≡ counts_fit depends n
  unfolding counts_fit
  counts_alone e = rw e

pub ruleset counts = (counts_each, counts_alone)

-- the lengths that are left, behind others of so many bytes
module _ (n : ℕ) (d : List ℕ) where
  abbrev told : Bool
  told = lengths_fit (lengths_lent n d) 0 (length d)

  pub lengths_none : lengths_fit (lengths_left d n 0) 0 (length d) ≡ told
  lengths_none = rw sub-zero

  module _ (i sum : ℕ) (e : lengths_fit (lengths_left d n i) sum (length d) ≡ told) where
    pub lengths_all : n ≤ i → (leb sum 800 && leb (80 + sum) (length d)) ≡ told
    unfolding lengths_fit
    lengths_all h = let k : n - i ≡ 0 = omega arith in rw k at e

    module _ (l : i < n) (few : n ≤ 16) (long : 80 ≤ length d) where
      first : lengths_left d n i ≡ get_or d (64 + i) 0 ∷ lengths_left d n (i + 1)
      first = length_first d n i l (omega arith)

      pub length_long : 245 < get_or d (64 + i) 0 → false ≡ told
      unfolding lengths_fit
      length_long h = rw (first, lt-leb (get_or d (64 + i) 0) 245 h) at e

      pub length_passed : (x : ℕ) → x ≡ get_or d (64 + i) 0 → get_or d (64 + i) 0 ≤ 245 → lengths_fit (lengths_left d n (i + 1)) (sum + x) (length d) ≡ told
      unfolding lengths_fit
      length_passed x p h = rw p (rw (first, le-leb (get_or d (64 + i) 0) 245 h) at e)

pub ruleset lengths = (lengths_none, lengths_all, length_long, length_passed, arith)

-- lengths that are looked at one by one
abbrev pub are_short : List ℕ → Bool
are_short [] = true
are_short (n ∷ ns) = leb n 245 && are_short ns

pub fit_by : (ns : List ℕ) (sum lent : ℕ) → lengths_fit ns sum lent ≡ (are_short ns && (leb (sum + sum_of ns) 800 && leb (80 + (sum + sum_of ns)) lent))
unfolding lengths_fit sum_of
fit_by [] sum lent = rw add-zero
fit_by (n ∷ ns) sum lent =
    rw (fit_by ns (sum + n) lent, add_assoc)
    (sym (and_assoc (leb n 245) (are_short ns) (leb (sum + (n + sum_of ns)) 800 && leb (80 + (sum + (n + sum_of ns))) lent)))

module _ (n : ℕ) (d : List ℕ) where
  abbrev sum : ℕ
  sum = sum_of (lengths_lent n d)

  -- where the entries have no places
  pub entries_many : 16 < n → false ≡ pieces_fit n d
  unfolding pieces_fit
  entries_many h = rw (lt-leb n 16 h)

  pub entries_cut : length d < 80 → false ≡ pieces_fit n d
  unfolding pieces_fit
  entries_cut h =
      rw (fit_by (lengths_lent n d) 0 (length d), lt-leb (80 + (0 + sum)) (length d) (omega arith), and-false, and-false, and-false)

  pub entries_there : (r : Bool) → n ≤ 16 → r ≡ lengths_fit (lengths_lent n d) 0 (length d) → r ≡ pieces_fit n d
  unfolding pieces_fit
  entries_there r h e = rw (le-leb n 16 h) e

pub ruleset entries = (entries_many, entries_cut, entries_there)
