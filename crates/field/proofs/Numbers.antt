-- Whole numbers under a kind: each law in the shape of a need of the code. A whole below 0 is -1 - k, and its 64 bits are those of k turned.
-- Assumes nothing.
use mathlib.Core.Path.{◌≡◌, refl, sym, ap, ◌∙◌}
use mathlib.Core.{Bool.true, Bool.false, List.List}
use Prim.Native.Nat.{ℕ, suc, ◌+◌, ◌-◌, ◌^◌, ◌≤◌, ◌<◌}
use native.Mathlib.Omega.{arith}
use lib.{Dec.T, ListN.length, ListN.get_or, Signed.lt_z, Signed.mag, Signed.non_neg}
use lib.IntN.{ℤ, pos, negsuc, nat_abs, ◌-ℤ◌}
use lib.Ieee.{Float}
use mir.Syntax.{w64}
use mir.Val.{to_z, of_z, SFits, Fits}
use mir.ValLaws.{to_z-of_z}
use borrow.Author.Tests.{le-leb, lt-leb, le-ltb, ltb-true}
use Rattle.element.specs.Code.At.{leaf_at}
use Rattle.number.specs.declared.Number.{Number, TheVariants.Signed, TheVariants.Unsigned, TheVariants.Real}
use Rattle.number.specs.{Number.Found, Number.number_of, Code.Body.bits_at}
use Rattle.number.proofs.Reading.{Reads, upward, past, small_is, unsigned1, unsigned2, unsigned4, unsigned8, byte_wide}
use Rattle.octets.proofs.Ranges.{true_false}
use Rattle.std.specs.Prelude.{Option as Answer, Some, None}
use Rattle.field.specs.{Kind.Kind, Judge.whole_in, Judge.judge, Cell.word_of, Code.At.shallow_at}
use Rattle.field.specs.Code.Read.{tell, read_at}
use Rattle.field.proofs.Shallow.{leaf_view}

-- the number at a place is the leaf's
pub number_there : (s : List ℕ) (at : ℕ) → number_of (shallow_at s at) ≡ number_of (leaf_at s at)
number_there s at = leaf_view s at number_of (λ es. refl) refl

module _ (hi n : ℕ) where
  pub upto_good : n ≤ hi → Some n ≡ tell word_of (whole_in 0 hi (Some (Unsigned n)))
  unfolding tell
  upto_good h = simp (le-leb n hi h)

  pub upto_bad : hi < n → None ≡ tell word_of (whole_in 0 hi (Some (Unsigned n)))
  unfolding tell
  upto_bad h = simp (lt-leb n hi h)

module _ (lo k : ℕ) where
  pub below_good : k < lo → Some (2 ^ 64 - 1 - k) ≡ tell word_of (whole_in lo 0 (Some (Signed (negsuc k))))
  unfolding tell
  below_good h =
      let b : 2 ^ 64 - 1 - k ≡ 2 ^ 64 - suc k = omega arith in
      ap (λ (n : ℕ). Some n) b ∙ simp (le-leb (suc k) lo h)

  pub below_bad : lo ≤ k → None ≡ tell word_of (whole_in lo 0 (Some (Signed (negsuc k))))
  unfolding tell
  below_bad h = simp (lt-leb (suc k) lo (omega arith))

pub ruleset bounds = (upto_good, upto_bad, below_good, below_bad, arith)

-- -1 - z, as the code has it
turned : (k : ℕ) → negsuc 0 -ℤ negsuc k ≡ pos k
turned k =
    let e : suc k - 1 ≡ k = omega arith in
    simp (le-ltb (suc k) 1 (omega arith)) (ap pos e)

abbrev pub back : ℤ → ℤ
back z = to_z w64 (of_z w64 z)

abbrev pub turn : ℤ → ℕ
turn z = nat_abs (back (negsuc 0 -ℤ back z))

module _ (z : ℤ) (m : mag z < 2 ^ 63) where
  same : back z ≡ z
  same = to_z-of_z w64 z (record { sfits = m })

  negative : lt_z (back z) (pos 0) ≡ true → (k : ℕ) × (z ≡ negsuc k) × (k < 2 ^ 63)
  negative t = go z m (rw same at t)
    where
      go : (z : ℤ) → mag z < 2 ^ 63 → lt_z z (pos 0) ≡ true → (k : ℕ) × (z ≡ negsuc k) × (k < 2 ^ 63)
      go (pos n) m t = absurd (omega (arith, ltb-true n 0 t))
      go (negsuc k) m t = (k, refl, m)

  positive : lt_z (back z) (pos 0) ≡ false → (k : ℕ) × (z ≡ pos k) × (k < 2 ^ 63)
  positive t = go z m (rw same at t)
    where
      go : (z : ℤ) → mag z < 2 ^ 63 → lt_z z (pos 0) ≡ false → (k : ℕ) × (z ≡ pos k) × (k < 2 ^ 63)
      go (pos n) m t = (n, refl, m)
      go (negsuc k) m t = true_false t

  minus : (k : ℕ) → z ≡ negsuc k → negsuc 0 -ℤ back z ≡ pos k
  minus k e = rw (same, e) (turned k)

  pub turn_fits : lt_z (back z) (pos 0) ≡ true → SFits w64 (negsuc 0 -ℤ back z)
  turn_fits t =
      let n = negative t in
      rw (minus n.0 n.1) (record { sfits = n.2 })

  again : (t : lt_z (back z) (pos 0) ≡ true) → back (negsuc 0 -ℤ back z) ≡ pos (negative t).0
  again t = to_z-of_z w64 (negsuc 0 -ℤ back z) (turn_fits t) ∙ minus (negative t).0 (negative t).1

  pub turn_sign : lt_z (back z) (pos 0) ≡ true → T (non_neg (back (negsuc 0 -ℤ back z)))
  turn_sign t = rw (again t) tt

  pub turn_width : lt_z (back z) (pos 0) ≡ true → Fits w64 (turn z)
  turn_width t =
      let n = negative t in
      rw (again t) (record { fits = omega arith })

  pub plain_sign : lt_z (back z) (pos 0) ≡ false → T (non_neg (back z))
  plain_sign t = rw (same, (positive t).1) tt

  pub plain_width : lt_z (back z) (pos 0) ≡ false → Fits w64 (nat_abs (back z))
  plain_width t =
      let n = positive t in
      rw (same, n.1) (record { fits = omega arith })

  pub below_turned : lt_z (back z) (pos 0) ≡ true → z ≡ negsuc (turn z)
  below_turned t = (negative t).1 ∙ ap negsuc (sym (ap nat_abs (again t)))

  pub above_plain : lt_z (back z) (pos 0) ≡ false → z ≡ pos (nat_abs (back z))
  above_plain t = (positive t).1 ∙ ap pos (sym (ap nat_abs (same ∙ (positive t).1)))

  module _ (r : Answer ℕ) (lo hi : ℕ) (x : Number) (e : x ≡ Signed z) where
    by_sign : (y : ℤ) → z ≡ y → tell word_of (whole_in lo hi (Some (Signed y))) ≡ tell word_of (whole_in lo hi (Some x))
    by_sign y t = sym (ap (λ (n : Number). tell word_of (whole_in lo hi (Some n))) (e ∙ ap Signed t))

    pub whole_below : lt_z (back z) (pos 0) ≡ true → r ≡ tell word_of (whole_in lo 0 (Some (Signed (negsuc (turn z))))) → r ≡ tell word_of (whole_in lo hi (Some x))
    whole_below t q = q ∙ by_sign (negsuc (turn z)) (below_turned t)

    pub whole_above : lt_z (back z) (pos 0) ≡ false → r ≡ tell word_of (whole_in 0 hi (Some (Unsigned (nat_abs (back z))))) → r ≡ tell word_of (whole_in lo hi (Some x))
    whole_above t q = q ∙ by_sign (pos (nat_abs (back z))) (above_plain t)

module _ (lo hi : ℕ) (x : Number) where
  pub whole_unsigned : (r : Answer ℕ) (n : ℕ) → x ≡ Unsigned n → r ≡ tell word_of (whole_in 0 hi (Some (Unsigned n))) → r ≡ tell word_of (whole_in lo hi (Some x))
  whole_unsigned r n e q = q ∙ sym (rw e)

  pub whole_real : (y : Float) → x ≡ Real y → None ≡ tell word_of (whole_in lo hi (Some x))
  unfolding tell
  whole_real y e = sym (rw e)

pub ruleset turns = (turn_fits, turn_sign, turn_width, plain_sign, plain_width)

pub ruleset wholes = (whole_below, whole_above, whole_unsigned, whole_real)

-- the element at a place, by the number there
pub found : (s : List ℕ) (at : ℕ) (x : Found) → x ≡ number_of (leaf_at s at) → x ≡ number_of (shallow_at s at)
found s at x e = e ∙ sym (number_there s at)

module _ (s : List ℕ) (at lo hi : ℕ) where
  whole_is : (x : Found) → x ≡ number_of (leaf_at s at) → (r : Answer ℕ) → r ≡ tell word_of (whole_in lo hi x) → r ≡ read_at word_of (Kind.wholes lo hi) s at
  unfolding read_at judge
  whole_is x e r q = q ∙ ap (λ (y : Found). tell word_of (whole_in lo hi y)) (found s at x e)

  module _ (x : Found) (e : x ≡ number_of (leaf_at s at)) where
    pub whole_some : (n : Number) (r : Answer ℕ) → x ≡ Some n → r ≡ tell word_of (whole_in lo hi (Some n)) → r ≡ read_at word_of (Kind.wholes lo hi) s at
    whole_some n r y q = whole_is (Some n) (sym y ∙ e) r q

    pub whole_none : x ≡ None → None ≡ read_at word_of (Kind.wholes lo hi) s at
    unfolding tell
    whole_none y = whole_is None (sym y ∙ e) None refl

  -- by its lead byte
  pub whole_past : length s ≤ at → None ≡ read_at word_of (Kind.wholes lo hi) s at
  unfolding tell
  whole_past h = whole_is None (past s at h) None refl

  pub whole_small : at < length s → get_or s at 0 < 0x80 → (r : Answer ℕ) → r ≡ tell word_of (whole_in 0 hi (Some (Unsigned (get_or s at 0)))) → r ≡ read_at word_of (Kind.wholes lo hi) s at
  whole_small there h r q = whole_is (Some (Unsigned (get_or s at 0))) (small_is s at there h) r q

-- an unsigned whole of w bytes behind the byte b
abbrev Wide : ℕ → ℕ → Type 0
Wide b w =
    (s : List ℕ) (at lo hi : ℕ) (o : Answer ℕ) → at < length s → get_or s at 0 ≡ b → o ≡ bits_at s (at + 1) w → (n : ℕ) → o ≡ Some n
    → (r : Answer ℕ) → r ≡ tell word_of (whole_in 0 hi (Some (Unsigned n))) → r ≡ read_at word_of (Kind.wholes lo hi) s at

abbrev Lacks : ℕ → ℕ → Type 0
Lacks b w =
    (s : List ℕ) (at lo hi : ℕ) (o : Answer ℕ) → at < length s → get_or s at 0 ≡ b → o ≡ bits_at s (at + 1) w → o ≡ None
    → None ≡ read_at word_of (Kind.wholes lo hi) s at

module _ (b w : ℕ) (R : Reads b w upward) where
  wide : Wide b w
  wide s at lo hi o there e f n y r q =
      whole_is s at lo hi (Some (Unsigned n)) (R s at (Some (Unsigned n)) o there e f (sym (rw y))) r q

  lacks : Lacks b w
  unfolding tell
  lacks s at lo hi o there e f y = whole_is s at lo hi None (R s at None o there e f (sym (rw y))) None refl

pub wide1 : Wide 0xCC 1
wide1 = wide 0xCC 1 unsigned1

pub wide2 : Wide 0xCD 2
wide2 = wide 0xCD 2 unsigned2

pub wide4 : Wide 0xCE 4
wide4 = wide 0xCE 4 unsigned4

pub wide8 : Wide 0xCF 8
wide8 = wide 0xCF 8 unsigned8

pub lacks1 : Lacks 0xCC 1
lacks1 = lacks 0xCC 1 unsigned1

pub lacks2 : Lacks 0xCD 2
lacks2 = lacks 0xCD 2 unsigned2

pub lacks4 : Lacks 0xCE 4
lacks4 = lacks 0xCE 4 unsigned4

pub lacks8 : Lacks 0xCF 8
lacks8 = lacks 0xCF 8 unsigned8

pub ruleset numbers = (byte_wide, whole_past, whole_small, wide1, wide2, wide4, wide8, lacks1, lacks2, lacks4, lacks8, whole_some, whole_none, arith)
