-- Parts of an array that are bytes below 0x80: each is its own number, so a run of them leaves the parts behind it as they are.
-- Each law in the shape of a need of the code. Assumes nothing.
use mathlib.Core.Path.{◌≡◌, refl, sym, subst, ◌∙◌}
use mathlib.Core.{Bool.Bool, Bool.true, Bool.false, List.List}
use Prim.Native.Nat.{ℕ, ◌+◌, ◌-◌, ◌≤◌, ◌<◌}
use native.Mathlib.Omega.{arith}
use lib.{Dec.T, Dec.ltb, ListN.length, ListN.get_or}
use borrow.Author.Tests.{ltb-true, ltb-false}
use Rattle.octets.specs.Code.Low.{are_low}
use Rattle.octets.proofs.Lows.{low_there, low_each}
use Rattle.std.specs.Prelude.{Some}
use Rattle.field.specs.Code.Item.{octet_at, LowRun}
use Rattle.field.proofs.Octets.{octet, octet_small}

-- eight more
module _ (s : List ℕ) (at n : ℕ) where
  pub run_none : LowRun s at n 0
  run_none = record { few = omega arith; within = omega arith; low = λ i h. absurd (omega arith) }

  module _ (r : ℕ) (y : LowRun s at n r) (t : Bool) (e : t ≡ are_low s (at + r) 8) (u : t ≡ true) where
    eight : T (are_low s (at + r) 8)
    eight = subst T (sym u ∙ e) tt

    low_by : (i : ℕ) → i < r + 8 → (b : Bool) → ltb i r ≡ b → get_or s (at + i) 0 < 0x80
    low_by i h true f = y.low i (ltb-true i r f)
    low_by i h false f =
        let l : r ≤ i = ltb-false i r f in
        let z : at + r + (i - r) ≡ at + i = omega arith in
        rw z at (low_each s (at + r) 8 eight (i - r) (omega arith))

    pub run_more : 8 ≤ n - r → LowRun s at n (r + 8)
    run_more h = record {
      few = omega (arith, y.few);
      within = omega (arith, low_there s (at + r) 8 eight);
      low = λ i l. low_by i l (ltb i r) refl;
    }

pub ruleset runs = (run_none, run_more, arith)

-- one part of a run
module _ (s : List ℕ) (at n r : ℕ) (y : LowRun s at n r) where
  run_there : (i : ℕ) → i < r → at + i < length s
  run_there i h = omega (arith, y.within)

  pub run_octet : (i : ℕ) → i < r → Some (octet (get_or s (at + i) 0) (at + i + 1)) ≡ octet_at s (at + i)
  run_octet i h = octet_small s (at + i) (run_there i h) (y.low i h)
