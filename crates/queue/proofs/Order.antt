-- Of entries whose prios are numbers, none goes before one that goes before it, and what is behind is behind all that is further ahead: by their ranks, then IDs.
-- Assumes nothing.
use mathlib.Core.{Path.◌≡◌, Path.refl, Path.sym, Path.ap, Path.◌∙◌}
use mathlib.Core.Bool.{Bool, true, false, not, ◌&&◌, ◌||◌}
use Prim.Native.Nat.{ℕ, ◌≤◌}
use native.Mathlib.Omega.{arith}
use lib.{Dec.ltb, Dec.eqb, Ieee.Float, Ieee.binary64, Ieee.fits, Ieee.is_nan, Ieee.lt, Ieee.eq, Ieee.of_bits, Ieee.to_bits, Ieee.nan_bits, Ieee.Bits.of_bits-to_bits, Ieee.Bits.nan_bits_is}
use borrow.Author.Tests.{ltb-true, ltb-false, le-ltb, eqb-true, eq-eqb, not-true}
use Rattle.octets.proofs.Ranges.{true_is, true_false}
use Rattle.octets.proofs.Truth.{both}
use Rattle.queue.specs.{Entry.Entry, Entry.goes_before, Run.is_real, Code.Rank.rank_of}
use Rattle.queue.proofs.Ranked.{lt_rank, eq_rank}

-- by two numbers each
abbrev before : ℕ → ℕ → ℕ → ℕ → Bool
before r i s j = ltb s r || (eqb r s && ltb i j)

module _ (r i s j : ℕ) where
  not_higher : before r i s j ≡ false → r ≤ s
  not_higher e = go (ltb s r) refl e
    where
      go : (b : Bool) → ltb s r ≡ b → b || (eqb r s && ltb i j) ≡ false → r ≤ s
      go true p e = true_false e
      go false p e = ltb-false s r p

  then_later : before r i s j ≡ false → r ≡ s → j ≤ i
  then_later e h = ltb-false i j (rw (le-ltb s r (omega arith), eq-eqb r s h) at e)

  is_behind : r ≤ s → (r ≡ s → j ≤ i) → before r i s j ≡ false
  is_behind h k = go (eqb r s) refl
    where
      go : (b : Bool) → eqb r s ≡ b → before r i s j ≡ false
      go true p = rw (le-ltb s r h, p, le-ltb i j (k (eqb-true r s p)))
      go false p = rw (le-ltb s r h, p)

one_ahead : (r i s j : ℕ) → before r i s j ≡ true → before s j r i ≡ false
one_ahead r i s j e = go (ltb s r) refl e
  where
    go : (b : Bool) → ltb s r ≡ b → b || (eqb r s && ltb i j) ≡ true → before s j r i ≡ false
    go true p e = let h = ltb-true s r p in is_behind s j r i (omega arith) (λ k. absurd (omega arith))
    go false p e =
        let z = both (eqb r s) (ltb i j) e in
        let h = eqb-true r s z.0 in
        let k = ltb-true i j z.1 in
        is_behind s j r i (omega arith) (λ g. omega arith)

still_behind : (r i s j t k : ℕ) → before r i s j ≡ false → before s j t k ≡ false → before r i t k ≡ false
still_behind r i s j t k e f =
    let a = not_higher r i s j e in
    let b = not_higher s j t k f in
    is_behind r i t k (omega arith) (λ h. omega (arith, then_later r i s j e (omega arith), then_later s j t k f (omega arith)))

-- the ranks of reals
same : (x : Float) → fits binary64 x && not (is_nan x) ≡ true → of_bits binary64 (to_bits binary64 x) ≡ x
same x p = of_bits-to_bits binary64 x (true_is (fits binary64 x) (sym (both (fits binary64 x) (not (is_nan x)) p).0))

number : (x : Float) → fits binary64 x && not (is_nan x) ≡ true → nan_bits binary64 (to_bits binary64 x) ≡ false
number x p = nan_bits_is binary64 (to_bits binary64 x) ∙ ap is_nan (same x p) ∙ not-true (is_nan x) (both (fits binary64 x) (not (is_nan x)) p).1

abbrev rank : Entry → ℕ
rank e = rank_of (to_bits binary64 e.asks.prio)

by_rank : (a b : Entry) → is_real a ≡ true → is_real b ≡ true → goes_before a b ≡ before (rank a) a.asks.que_id (rank b) b.asks.que_id
by_rank a b p q =
    let x = a.asks.prio in
    let y = b.asks.prio in
    let l : lt y x ≡ ltb (rank b) (rank a) = rw (same x p, same y q) at (lt_rank (to_bits binary64 y) (to_bits binary64 x) (number y q) (number x p)) in
    let e : eq x y ≡ eqb (rank a) (rank b) = rw (same x p, same y q) at (eq_rank (to_bits binary64 x) (to_bits binary64 y) (number x p) (number y q)) in
    rw (l, e)

pub behind_itself : (a : Entry) → is_real a ≡ true → goes_before a a ≡ false
behind_itself a p = by_rank a a p p ∙ is_behind (rank a) a.asks.que_id (rank a) a.asks.que_id (omega arith) (λ e. omega arith)

module _ (a b : Entry) (p : is_real a ≡ true) (q : is_real b ≡ true) where
  pub not_both : goes_before a b ≡ true → goes_before b a ≡ false
  not_both h = by_rank b a q p ∙ one_ahead (rank a) a.asks.que_id (rank b) b.asks.que_id (sym (by_rank a b p q) ∙ h)

  pub behind_all : (c : Entry) → is_real c ≡ true → goes_before a b ≡ false → goes_before b c ≡ false → goes_before a c ≡ false
  behind_all c r h k =
      by_rank a c p r
      ∙ still_behind (rank a) a.asks.que_id (rank b) b.asks.que_id (rank c) c.asks.que_id (sym (by_rank a b p q) ∙ h) (sym (by_rank b c q r) ∙ k)
