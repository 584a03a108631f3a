-- A Cmp or a Rsp that is accepted frees exactly one entry of its side, a start takes exactly one, and no more are open than there are places.
-- By the laws of places. Assumes nothing.
use mathlib.Core.{Path.◌≡◌, Path.refl, Path.sym, List.List, Option.some}
use mathlib.Core.Bool.{Bool, true, false, not, ◌&&◌}
use Prim.Native.Nat.{ℕ, suc, ◌-◌, ◌≤◌, ◌<◌}
use native.Mathlib.Omega.{arith}
use lib.{Dec.eqb, IntN.ℤ, IntN.pos, ListN.length, ListN.get_or}
use Rattle.octets.proofs.Ranges.{true_false}
use Rattle.session.specs.Session.{Entry}
use Rattle.session.specs.Place.{same_id, is_free, matches, free_place, entry_place, entry, no_entry, taken, freed, open_in}
use Rattle.session.proofs.Places.{first_passes, open_taken, open_freed, open_few}

not_free : (z : ℤ) (k : ℕ) (e : Entry) → matches z k e ≡ true → is_free e ≡ false
not_free z k e t = go (is_free e) t
  where
    go : (b : Bool) → not b && (same_id e.id z && eqb e.kind k) ≡ true → b ≡ false
    go true t = true_false (sym t)
    go false t = refl

module _ (t : List Entry) (i : ℕ) where
  -- the entry that a Cmp or Rsp frees
  module _ (z : ℤ) (k : ℕ) (e : entry_place z k t ≡ some i) where
    there : (i < length t) × (matches z k (get_or t i no_entry) ≡ true)
    there =
        let p = first_passes (matches z k) t 0 i e in
        let j : i - 0 ≡ i = omega arith in
        (omega (arith, p.1), rw j at p.2)

    pub frees_one : suc (open_in (freed t i)) ≡ open_in t
    frees_one = open_freed t i there.0 (not_free z k (get_or t i no_entry) there.1)

  -- the place that a start takes
  module _ (z : ℤ) (k : ℕ) (n : same_id z (pos 0) ≡ false) (e : free_place t ≡ some i) where
    free : (i < length t) × (is_free (get_or t i no_entry) ≡ true)
    free =
        let p = first_passes is_free t 0 i e in
        let j : i - 0 ≡ i = omega arith in
        (omega (arith, p.1), rw j at p.2)

    pub takes_one : open_in (taken t i z k) ≡ suc (open_in t)
    takes_one = open_taken t i (entry z k) free.0 free.1 n

-- sixteen places hold at most sixteen
pub at_most_lem : (t : List Entry) (n : ℕ) → length t ≡ n → open_in t ≤ n
at_most_lem t n e = omega (arith, open_few t)
