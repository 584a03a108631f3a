-- The order of reals by one number each: the sign and the size of a binary64's bits as a rank, plus and minus zero the same, and a NaN before and behind none.
-- Assumes nothing.
use mathlib.Core.{Path.◌≡◌, Path.refl, Path.sym, Path.◌∙◌}
use mathlib.Core.Bool.{Bool, true, false, ◌&&◌}
use Prim.Native.Nat.{ℕ, ◌+◌, ◌-◌, ◌%◌, ◌<◌}
use native.Mathlib.Omega.{arith}
use lib.{Dec.leb, Dec.ltb, Dec.eqb}
use lib.Ieee.{binary64, top, below, level, lt, eq, of_bits, nan_bits}
use borrow.Author.Tests.{ltb-true, lt-ltb, le-ltb, eqb-true, eq-eqb}
use Rattle.octets.proofs.Ranges.{same_test}
use Rattle.octets.proofs.Truth.{both}
use Rattle.queue.specs.Code.Rank.{rank_by, rank_of}
use Rattle.queue.proofs.Patterns.{lt_bits, eq_bits}

and-true : (b : Bool) → b && true ≡ b
and-true true = refl
and-true false = refl

module _ (c n m : ℕ) (h : n < c) (k : m < c) where
  below_rank : (s t : Bool) → below s n t m ≡ ltb (rank_by c s n) (rank_by c t m)
  below_rank false false = same_test (ltb n m) (ltb (c + n) (c + m)) (λ e. lt-ltb (c + n) (c + m) (omega (arith, ltb-true n m e))) (λ e. lt-ltb n m (omega (arith, ltb-true (c + n) (c + m) e)))
  below_rank false true = sym (le-ltb (c + n) (c - m) (omega arith))
  below_rank true false = same_test (ltb 0 (n + m)) (ltb (c - n) (c + m)) (λ e. lt-ltb (c - n) (c + m) (omega (arith, ltb-true 0 (n + m) e))) (λ e. lt-ltb 0 (n + m) (omega (arith, ltb-true (c - n) (c + m) e)))
  below_rank true true = same_test (ltb m n) (ltb (c - n) (c - m)) (λ e. lt-ltb (c - n) (c - m) (omega (arith, ltb-true m n e))) (λ e. lt-ltb m n (omega (arith, ltb-true (c - n) (c - m) e)))

  -- equal are two of one sign and size, or two zeros
  one_sign : (x y : ℕ) → (n ≡ m → x ≡ y) → (x ≡ y → n ≡ m) → eqb n m && true ≡ eqb x y
  one_sign x y p q = and-true (eqb n m) ∙ same_test (eqb n m) (eqb x y) (λ e. eq-eqb x y (p (eqb-true n m e))) (λ e. eq-eqb n m (q (eqb-true x y e)))

  zeros : (x y : ℕ) → (n ≡ 0 → m ≡ 0 → x ≡ y) → (x ≡ y → (n ≡ 0) × (m ≡ 0)) → eqb n m && eqb n 0 ≡ eqb x y
  zeros x y p q =
      same_test (eqb n m && eqb n 0) (eqb x y)
      (λ e. let z = both (eqb n m) (eqb n 0) e in let w = eqb-true n 0 z.1 in eq-eqb x y (p w (omega (arith, eqb-true n m z.0))))
      (λ e. let z = q (eqb-true x y e) in rw (eq-eqb n m (omega (arith, z.0, z.1)), eq-eqb n 0 z.0))

  level_rank : (s t : Bool) → level s n t m ≡ eqb (rank_by c s n) (rank_by c t m)
  level_rank false false = one_sign (c + n) (c + m) (λ e. omega arith) (λ e. omega arith)
  level_rank false true = zeros (c + n) (c - m) (λ e z. omega arith) (λ e. (omega arith, omega arith))
  level_rank true false = zeros (c - n) (c + m) (λ e z. omega arith) (λ e. (omega arith, omega arith))
  level_rank true true = one_sign (c - n) (c - m) (λ e. omega arith) (λ e. omega arith)

module _ (a b : ℕ) where
  pub lt_rank : nan_bits binary64 a ≡ false → nan_bits binary64 b ≡ false → lt (of_bits binary64 a) (of_bits binary64 b) ≡ ltb (rank_of a) (rank_of b)
  unfolding rank_of
  lt_rank p q = lt_bits binary64 a b p q ∙ below_rank (top binary64) (a % top binary64) (b % top binary64) (omega arith) (omega arith) (leb (top binary64) a) (leb (top binary64) b)

  pub eq_rank : nan_bits binary64 a ≡ false → nan_bits binary64 b ≡ false → eq (of_bits binary64 a) (of_bits binary64 b) ≡ eqb (rank_of a) (rank_of b)
  unfolding rank_of
  eq_rank p q = eq_bits binary64 a b p q ∙ level_rank (top binary64) (a % top binary64) (b % top binary64) (omega arith) (omega arith) (leb (top binary64) a) (leb (top binary64) b)
