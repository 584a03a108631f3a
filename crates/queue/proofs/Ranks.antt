-- Which prio goes first, by the code's tests on bits: whether one is a NaN, and its rank. Each law in the shape of a need of the code. Assumes nothing.
use mathlib.Core.{Path.◌≡◌, Path.refl, Path.sym, Path.◌∙◌}
use mathlib.Core.Bool.{Bool, true, false, ◌&&◌, ◌||◌}
use Prim.Native.Nat.{ℕ, ◌+◌, ◌-◌, ◌%◌, ◌≤◌, ◌<◌}
use lib.{Dec.ltb, Dec.eqb}
use lib.Ieee.{Float, nan, inf, fin, binary64, is_nan, lt, eq, of_bits, nan_bits, Bits.nan_bits_is, Bits.nan_bits_above}
use borrow.Author.Tests.{le-leb, lt-leb}
use Rattle.octets.proofs.Ranges.{true_false}
use Rattle.octets.proofs.Truth.{neither}
use Rattle.queue.specs.Code.Rank.{rank_of, bits_before}
use Rattle.queue.proofs.Ranked.{lt_rank, eq_rank}

pub nan_test : (b : ℕ) → ltb 0x7FF0_0000_0000_0000 (b % 0x8000_0000_0000_0000) ≡ nan_bits binary64 b
nan_test b = sym (nan_bits_above binary64 b)

pub rank_plus : (b : ℕ) → b < 0x8000_0000_0000_0000 → 0x8000_0000_0000_0000 + b % 0x8000_0000_0000_0000 ≡ rank_of b
unfolding rank_of
rank_plus b h = rw (lt-leb 0x8000_0000_0000_0000 b h)

pub rank_minus : (b : ℕ) → 0x8000_0000_0000_0000 ≤ b → 0x8000_0000_0000_0000 - b % 0x8000_0000_0000_0000 ≡ rank_of b
unfolding rank_of
rank_minus b h = rw (le-leb 0x8000_0000_0000_0000 b h)

pub ruleset ranking = (nan_test, rank_plus, rank_minus)

-- a NaN is neither below nor above nor equal
is_nan_lem : (x : Float) → is_nan x ≡ true → x ≡ nan
unfolding is_nan
is_nan_lem nan e = refl
is_nan_lem (inf s) e = true_false (sym e)
is_nan_lem (fin s m e) h = true_false (sym h)

unlike_nan : (x : Float) → (lt x nan ≡ false) × (eq x nan ≡ false) × (lt nan x ≡ false) × (eq nan x ≡ false)
unfolding lt eq
unlike_nan nan = (refl, refl, refl, refl)
unlike_nan (inf s) = (refl, refl, refl, refl)
unlike_nan (fin s m e) = (refl, refl, refl, refl)

module _ (p i o j : ℕ) (a b : Bool) (e : a ≡ nan_bits binary64 p) (f : b ≡ nan_bits binary64 o) where
  nan_of : (n : ℕ) (t : Bool) → t ≡ nan_bits binary64 n → t ≡ true → of_bits binary64 n ≡ nan
  nan_of n t e h = is_nan_lem (of_bits binary64 n) (sym (nan_bits_is binary64 n) ∙ sym e ∙ h)

  pub nan_behind : a || b ≡ true → false ≡ bits_before p i o j
  unfolding bits_before
  nan_behind h = go a refl h
    where
      go : (t : Bool) → a ≡ t → t || b ≡ true → false ≡ bits_before p i o j
      go true k h = let z = unlike_nan (of_bits binary64 o) in rw (nan_of p a e k, z.0, z.3)
      go false k h = let z = unlike_nan (of_bits binary64 p) in rw (nan_of o b f h, z.1, z.2)

  pub ranks_tell : a || b ≡ false → (r s : ℕ) → r ≡ rank_of p → s ≡ rank_of o → ltb s r || (eqb r s && ltb i j) ≡ bits_before p i o j
  unfolding bits_before
  ranks_tell h r s u v =
      let z = neither a b h in
      let x = sym e ∙ z.0 in
      let y = sym f ∙ z.1 in
      rw (u, v, lt_rank o p y x, eq_rank p o x y)

pub ruleset before = (nan_behind, ranks_tell)
