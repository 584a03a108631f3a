-- The reader's answers, each law in the shape of a need of the code: the tests that led there give the case of the definition. And what is read
-- fits in 64 bits. Assumes nothing.
use mathlib.Core.{Path.◌≡◌, Path.refl, Path.sym, Path.ap, Path.◌∙◌, List.List}
use Prim.Native.Nat.{ℕ, zero, suc, ◌+◌, ◌-◌, ◌*◌, ◌%◌, ◌^◌, ◌≤◌, ◌<◌}
use native.Mathlib.Nat.{pow-le-pow_right}
use native.Mathlib.Numerals.{add-one}
use native.Mathlib.Omega.{arith}
use lib.{Dec.lit<, ListN.length, ListN.get_or}
use borrow.Author.Tests.{lt-ltb, le-ltb, le-leb, lt-leb, eq-eqb, ne_eqb}
use Rattle.std.specs.Prelude.{Result, Ok, Err, IsErrAnd}
use Rattle.refusal.specs.declared.Refusal.{Refusal, TheVariants.NotShortest, TheVariants.InputEnds}
use Rattle.groups.specs.declared.Number.{Number}
use Rattle.groups.specs.Groups.{last_group, tenth_group, behind, groups_at}
use Rattle.groups.proofs.Ways.{below}

-- a refusal that is handed on
pub given_up : {A : Type 0} (r : Result A Refusal) (k : Refusal) → IsErrAnd r (λ y. y ≡ k) → r ≡ Err k
given_up (Ok a) k h = absurd h
given_up (Err j) k h = ap (λ (y : Refusal). Err y) h

-- the tenth byte
module _ (b next : ℕ) where
  pub tenth_over : 1 < b → Err NotShortest ≡ tenth_group b next
  unfolding tenth_group
  tenth_over h = simp (lt-leb b 1 h)

  pub tenth_bit : b ≤ 1 → (n : Number) → n ≡ last_group b next → Ok n ≡ tenth_group b next
  unfolding tenth_group
  tenth_bit h n e = simp (le-leb b 1 h, e)

-- otherwise tested
pub small_bit : (b : ℕ) → b < 2 → b ≤ 1
small_bit b h = omega arith

pub ruleset tenths = (tenth_over, tenth_bit, small_bit, arith)

-- a group in front of others
module _ (low : ℕ) (o : Number) where
  pub behind_none : o.value ≡ 0 → Err NotShortest ≡ behind low o
  unfolding behind
  behind_none z = simp (eq-eqb o.value 0 z)

  pub behind_some : (o.value ≡ 0 → ⊥) → Ok (record { value = low + 128 * o.value; next = o.next }) ≡ behind low o
  unfolding behind
  behind_some f = simp (ne_eqb o.value 0 f)

pub ruleset behinds = (behind_none, behind_some, arith)

-- a number at a place
module _ (s : List ℕ) (at : ℕ) where
  pub at_end : (more : ℕ) → length s ≤ at → Err InputEnds ≡ groups_at more s at
  unfolding groups_at
  at_end zero h = simp (le-ltb at (length s) h)
  at_end (suc more) h = simp (le-ltb at (length s) h)

  module _ (h : at < length s) where
    pub at_tenth : (more : ℕ) → more ≡ 0 → (r : Result Number Refusal) → r ≡ tenth_group (get_or s at 0) (at + 1) → r ≡ groups_at more s at
    unfolding groups_at
    at_tenth zero z r e = simp (lt-ltb at (length s) h) (rw add-one at e)
    at_tenth (suc more) z r e = absurd (omega arith)

    pub at_last : (more : ℕ) → (more ≡ 0 → ⊥) → get_or s at 0 < 128 → (n : Number) → n ≡ last_group (get_or s at 0) (at + 1) → Ok n ≡ groups_at more s at
    unfolding groups_at
    at_last zero f l n e = absurd (f refl)
    at_last (suc more) f l n e = simp (lt-ltb at (length s) h, lt-ltb (get_or s at 0) 128 l, rw add-one at e)

    module _ (q : Result Number Refusal) where
      pub at_refused : (more : ℕ) (k : Refusal) → (more ≡ 0 → ⊥) → 128 ≤ get_or s at 0 → q ≡ groups_at (more - 1) s (at + 1) → q ≡ Err k → (r : Result Number Refusal) → IsErrAnd r (λ y. y ≡ k) → r ≡ groups_at more s at
      unfolding groups_at
      at_refused zero k f l e t r g = absurd (f refl)
      at_refused (suc more) k f l e t r g =
          let m : suc more - 1 ≡ more = omega arith in
          let p : groups_at more s (suc at) ≡ Err k = sym (rw (m, add-one) at e) ∙ t in
          simp (lt-ltb at (length s) h, le-ltb (get_or s at 0) 128 l, p) (given_up r k g)

      pub at_more : (more : ℕ) (o : Number) → (more ≡ 0 → ⊥) → 128 ≤ get_or s at 0 → q ≡ groups_at (more - 1) s (at + 1) → q ≡ Ok o → (r : Result Number Refusal) → r ≡ behind (get_or s at 0 % 128) o → r ≡ groups_at more s at
      unfolding groups_at
      at_more zero o f l e t r b = absurd (f refl)
      at_more (suc more) o f l e t r b =
          let m : suc more - 1 ≡ more = omega arith in
          let p : groups_at more s (suc at) ≡ Ok o = sym (rw (m, add-one) at e) ∙ t in
          simp (lt-ltb at (length s) h, le-ltb (get_or s at 0) 128 l, p) b

-- and what fits
pub low_fits : (s : List ℕ) (at more b : ℕ) (o : Number) (q : Result Number Refusal) → more ≤ 9 → (more ≡ 0 → ⊥) → q ≡ groups_at (more - 1) s (at + 1) → q ≡ Ok o → b % 128 + 128 * o.value < 2 ^ 64
low_fits s at more b o q h f e t =
    let l : o.value < 2 * 128 ^ (more - 1) = below s (more - 1) (at + 1) o (sym e ∙ t) in
    let eight : more - 1 ≤ 8 = omega arith in
    let most : 128 ^ (more - 1) ≤ 128 ^ 8 = pow-le-pow_right (lit< tt) eight in
    omega arith

pub ruleset groups = (at_end, at_tenth, at_last, at_refused, at_more, low_fits, arith)
