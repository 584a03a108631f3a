-- What a lead byte alone tells, by ranges of lead bytes, each by one computed test; and what the test for a short element says.
-- Assumes nothing.
use mathlib.Core.Path.{◌≡◌, refl, sym, ◌∙◌}
use mathlib.Core.Bool.{Bool, true, false}
use Prim.Native.Nat.{ℕ, ◌+◌, ◌-◌, ◌%◌, ◌≤◌, ◌<◌}
use native.Mathlib.Omega.{arith}
use lib.Dec.{T, ltb, eqb, eqb→eq}
use borrow.Author.Tests.{lt-ltb, le-ltb, eq-eqb, ne_eqb, ltb-true, ltb-false, eqb-false}
use Rattle.octets.specs.Choice.{either}
use Rattle.octets.proofs.Ranges.{all, ranged, true_false}
use Rattle.element.specs.Lead.{head_of, lead_bytes, row_in}
use Rattle.walk.specs.Code.Short.{two_to, is_number, quick_of, is_short}

-- the lead bytes of numbers
module _ (b : ℕ) where
  pub number_low : b < 0xCA → false ≡ is_number b
  number_low h = simp (lt-ltb _ _ h)

  pub number_in : 0xCA ≤ b → b < 0xD4 → true ≡ is_number b
  number_in g h = simp (le-ltb b 0xCA g, lt-ltb _ _ h)

  pub number_high : 0xD4 ≤ b → false ≡ is_number b
  number_high g = simp (le-ltb b 0xCA (omega arith), le-ltb b 0xD4 g)

pub ruleset numbers = (number_low, number_in, number_high)

-- what the n lead bytes from lo on tell, by a formula f
size_in : (f : ℕ → ℕ) (lo n : ℕ) → T (all (λ k. eqb (f k) (quick_of k)) lo n) → (b : ℕ) → lo ≤ b → b < lo + n → f b ≡ quick_of b
size_in f lo n t b g h = eqb→eq (f b) (quick_of b) (ranged (λ k. eqb (f k) (quick_of k)) lo n t b g h)

module _ (b : ℕ) where
  pub size_low : b < 0x80 → 1 ≡ quick_of b
  unfolding quick_of head_of lead_bytes row_in
  size_low h = size_in (λ k. 1) 0 0x80 tt b (omega arith) (omega arith)

  pub size_high : 0xE0 ≤ b → b < 256 → 1 ≡ quick_of b
  unfolding quick_of head_of lead_bytes row_in
  size_high g h = size_in (λ k. 1) 0xE0 0x20 tt b g (omega arith)

  pub size_map : 0x80 ≤ b → b < 0x90 → 64 + (b - 0x80) ≡ quick_of b
  unfolding quick_of head_of lead_bytes row_in
  size_map g h = size_in (λ k. 64 + (k - 0x80)) 0x80 0x10 tt b g (omega arith)

  pub size_array : 0x90 ≤ b → b < 0xA0 → 128 + (b - 0x90) ≡ quick_of b
  unfolding quick_of head_of lead_bytes row_in
  size_array g h = size_in (λ k. 128 + (k - 0x90)) 0x90 0x10 tt b g (omega arith)

  pub size_text : 0xA0 ≤ b → b < 0xC0 → b - 0x9F ≡ quick_of b
  unfolding quick_of head_of lead_bytes row_in
  size_text g h = size_in (λ k. k - 0x9F) 0xA0 0x20 tt b g (omega arith)

  pub size_never : b ≡ 0xC1 → 0 ≡ quick_of b
  unfolding quick_of head_of lead_bytes row_in
  size_never e = size_in (λ k. 0) 0xC1 1 tt b (omega arith) (omega arith)

  pub size_nil : 0xC0 ≤ b → b < 0xC4 → (b ≡ 0xC1 → ⊥) → 1 ≡ quick_of b
  unfolding quick_of head_of lead_bytes row_in
  size_nil g h n =
      simp (ne_eqb b 0xC1 n) at (size_in (λ k. either (eqb k 0xC1) (λ _. 0) (λ _. 1)) 0xC0 4 tt b g (omega arith))

  pub size_byte : b ≡ 0xCC → 2 ≡ quick_of b
  unfolding quick_of head_of lead_bytes row_in
  size_byte e = size_in (λ k. 2) 0xCC 1 tt b (omega arith) (omega arith)

  module _ (r : Bool) (e : r ≡ is_number b) where
    pub size_number : r ≡ true → b < 256 → (t : ℕ) → t ≡ two_to (b % 4) → 1 + t ≡ quick_of b
    unfolding quick_of head_of lead_bytes row_in
    size_number u h t f =
        rw f (simp (sym e ∙ u) at (size_in (λ k. either (is_number k) (λ _. 1 + two_to (k % 4)) (λ _. quick_of k)) 0 256 tt b (omega arith) h))

    pub size_sized : r ≡ false → 0xC4 ≤ b → b < 0xD4 → 0 ≡ quick_of b
    unfolding quick_of head_of lead_bytes row_in
    size_sized u g h =
        simp (sym e ∙ u) at (size_in (λ k. either (is_number k) (λ _. quick_of k) (λ _. 0)) 0xC4 16 tt b g (omega arith))

  pub size_counted : (t : ℕ) → t ≡ two_to (b % 4) → 0xCA ≤ b → b < 0xD4 → 1 + t ≡ quick_of b
  size_counted t f g h = size_number true (number_in b g h) refl (omega arith) t f

  pub size_behind : 0xC4 ≤ b → b < 0xCA → 0 ≡ quick_of b
  size_behind g h = size_sized false (number_low b h) refl g (omega arith)

  pub size_fixext : (t : ℕ) → t ≡ two_to (b - 0xD4) → 0xD4 ≤ b → b < 0xD9 → 2 + t ≡ quick_of b
  unfolding quick_of head_of lead_bytes row_in
  size_fixext t f g h = rw f (size_in (λ k. 2 + two_to (k - 0xD4)) 0xD4 5 tt b g (omega arith))

  pub size_long : 0xD9 ≤ b → b < 0xE0 → 0 ≡ quick_of b
  unfolding quick_of head_of lead_bytes row_in
  size_long g h = size_in (λ k. 0) 0xD9 7 tt b g (omega arith)

pub ruleset sizes = (size_low, size_high, size_map, size_array, size_text, size_never, size_nil, size_number, size_counted, size_behind, size_fixext, size_long)

-- an element without parts
module _ (z : ℕ) where
  pub short_none : z ≡ 0 → false ≡ is_short z
  short_none e = simp (eq-eqb _ _ e)

  pub short_some : (z ≡ 0 → ⊥) → z < 64 → true ≡ is_short z
  short_some n h = simp (ne_eqb _ _ n, lt-ltb _ _ h)

  pub short_more : (z ≡ 0 → ⊥) → 64 ≤ z → false ≡ is_short z
  short_more n h = simp (ne_eqb _ _ n, le-ltb _ _ h)

pub ruleset short_tests = (short_none, short_some, short_more)

after_test : (x y : Bool) → either x (λ _. false) (λ _. y) ≡ true → (x ≡ false) × (y ≡ true)
after_test true y e = true_false (sym e)
after_test false y e = (refl, e)

module _ (z : ℕ) where
  pub is_some : is_short z ≡ true → z ≡ 0 → ⊥
  is_some e = eqb-false z 0 (after_test (eqb z 0) (ltb z 64) e).0

  pub is_small : is_short z ≡ true → z < 64
  is_small e = ltb-true z 64 (after_test (eqb z 0) (ltb z 64) e).1

  pub is_long : is_short z ≡ false → (z ≡ 0 → ⊥) → 64 ≤ z
  is_long e n = go (ltb z 64) refl
    where
      go : (t : Bool) → ltb z 64 ≡ t → 64 ≤ z
      go true t = true_false (short_some z n (ltb-true z 64 t) ∙ e)
      go false t = ltb-false z 64 t

-- what the code's test told
pub tested : (z : ℕ) (r v : Bool) → r ≡ is_short z → r ≡ v → is_short z ≡ v
tested z r v e u = sym e ∙ u
