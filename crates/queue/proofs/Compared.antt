-- Reals that are no NaN compare as their signs and sizes do, in units of which each has a whole number: L of them are 1, and an infinity has B, more than any
-- finite one. Assumes nothing.
use mathlib.Core.{Path.◌≡◌, Path.refl, Path.sym, Path.ap, Path.◌∙◌}
use mathlib.Core.Bool.{Bool, true, false, not, ◌&&◌, ◌||◌, beq}
use Prim.Native.Nat.{ℕ, ◌+◌, ◌*◌, ◌<◌}
use native.Mathlib.Nat.{mul-pos, mul_assoc, mul_comm, mul_right_comm, lt_of_mul-lt-mul_right, mul-lt-mul_of_pos_right, eq_of_mul-eq-mul_right, zero-mul}
use native.Mathlib.Omega.{arith}
use lib.Ieee.{Float, nan, inf, fin, up, down, below, level, lt, eq, Fits.down_pos}
use borrow.Author.Tests.{lt-ltb, le-ltb, eq-eqb, ne_eqb}
use Rattle.queue.proofs.Alike.{Rising, same_below, same_level}

or_false : (b : Bool) → b ≡ b || false
or_false true = refl
or_false false = refl

module _ (L B : ℕ) where
  abbrev pub Sized : Float → Bool → ℕ → Type 0
  Sized nan s a = ⊥
  Sized (inf t) s a = (t ≡ s) × (a ≡ B)
  Sized (fin t m e) s a = (t ≡ s) × (m * up e * L ≡ a * down e) × (a < B)

  module _ (l : 0 < L) (o : 0 < B) where
    -- a fraction's numerator over p, and its size
    abbrev Scaled : ℕ → ℕ → ℕ → Type 0
    Scaled p x a = x * L ≡ a * p

    scaled_rises : (p : ℕ) → 0 < p → Rising (Scaled p)
    scaled_rises p h = record {
      up = λ x a y b e f k. lt_of_mul-lt-mul_right p (rw (← e, ← f) (mul-lt-mul_of_pos_right k l));
      one = λ x a b e f. eq_of_mul-eq-mul_right p h a b (sym e ∙ f);
      least = zero-mul L ∙ sym (zero-mul p);
    }

    over : (x c d a : ℕ) → x * L ≡ a * c → x * d * L ≡ a * (c * d)
    over x c d a e = mul_right_comm x d L ∙ ap (λ (z : ℕ). z * d) e ∙ mul_assoc a c d

    over_too : (x c d a : ℕ) → x * L ≡ a * c → x * d * L ≡ a * (d * c)
    over_too x c d a e = over x c d a e ∙ ap (λ (z : ℕ). a * z) (mul_comm c d)

    -- an infinity and a finite number, either way
    inf_below : (s t : Bool) (b : ℕ) → b < B → s ≡ below s B t b
    inf_below false false b h = sym (le-ltb B b (omega arith))
    inf_below false true b h = refl
    inf_below true false b h = sym (lt-ltb 0 (B + b) (omega arith))
    inf_below true true b h = sym (lt-ltb b B h)

    below_inf : (s t : Bool) (a : ℕ) → a < B → not t ≡ below s a t B
    below_inf false false a h = sym (lt-ltb a B h)
    below_inf false true a h = refl
    below_inf true false a h = sym (lt-ltb 0 (a + B) (omega arith))
    below_inf true true a h = sym (le-ltb B a (omega arith))

    infs_below : (s t : Bool) → s && not t ≡ below s B t B
    infs_below false false = sym (le-ltb B B (omega arith))
    infs_below false true = refl
    infs_below true false = sym (lt-ltb 0 (B + B) (omega arith))
    infs_below true true = sym (le-ltb B B (omega arith))

    pub lt_sized : (v w : Float) (s t : Bool) (a b : ℕ) → Sized v s a → Sized w t b → lt v w ≡ below s a t b
    unfolding lt
    lt_sized nan w s t a b p q = absurd p
    lt_sized (inf x) nan s t a b p q = absurd q
    lt_sized (inf x) (inf y) s t a b p q = rw (← p.0, ← q.0, p.1, q.1) (infs_below x y)
    lt_sized (inf x) (fin y n d) s t a b p q = rw (← p.0, ← q.0, p.1) (inf_below x y b q.2)
    lt_sized (fin x m e) nan s t a b p q = absurd q
    lt_sized (fin x m e) (inf y) s t a b p q = rw (← p.0, ← q.0, q.1) (below_inf x y a p.2)
    lt_sized (fin x m e) (fin y n d) s t a b p q =
        rw (← p.0, ← q.0)
        (same_below (Scaled (down e * down d)) (scaled_rises (down e * down d) (mul-pos (down_pos e) (down_pos d))) x y (m * up e * down d) a (n * up d * down e) b
        (over (m * up e) (down e) (down d) a p.1) (over_too (n * up d) (down d) (down e) b q.1))

    inf_level : (s t : Bool) (b : ℕ) → b < B → false ≡ level s B t b
    inf_level s t b h = rw (ne_eqb B b (λ e. omega arith))

    level_inf : (s t : Bool) (a : ℕ) → a < B → false ≡ level s a t B
    level_inf s t a h = rw (ne_eqb a B (λ e. omega arith))

    infs_level : (s t : Bool) → beq s t ≡ level s B t B
    infs_level s t = rw (eq-eqb B B refl, ne_eqb B 0 (λ e. omega arith)) (or_false (beq s t))

    pub eq_sized : (v w : Float) (s t : Bool) (a b : ℕ) → Sized v s a → Sized w t b → eq v w ≡ level s a t b
    unfolding eq
    eq_sized nan w s t a b p q = absurd p
    eq_sized (inf x) nan s t a b p q = absurd q
    eq_sized (inf x) (inf y) s t a b p q = rw (← p.0, ← q.0, p.1, q.1) (infs_level x y)
    eq_sized (inf x) (fin y n d) s t a b p q = rw (← p.0, ← q.0, p.1) (inf_level x y b q.2)
    eq_sized (fin x m e) nan s t a b p q = absurd q
    eq_sized (fin x m e) (inf y) s t a b p q = rw (← p.0, ← q.0, q.1) (level_inf x y a p.2)
    eq_sized (fin x m e) (fin y n d) s t a b p q =
        rw (← p.0, ← q.0)
        (same_level (Scaled (down e * down d)) (scaled_rises (down e * down d) (mul-pos (down_pos e) (down_pos d))) x y (m * up e * down d) a (n * up d * down e) b
        (over (m * up e) (down e) (down d) a p.1) (over_too (n * up d) (down d) (down e) b q.1))
