-- Values, pairs and the loops over them, by what the lead bytes tell: each turn takes the answer from here to the answer from behind the item.
-- The sums fit because something told of is there, counted, and has a level. Assumes nothing.
use mathlib.Core.Path.{◌≡◌, refl, sym, ap, ◌∙◌}
use mathlib.Core.{Bool.Bool, Bool.true, Bool.false, List.List}
use Prim.Native.Nat.{ℕ, ◌+◌, ◌-◌, ◌*◌, ◌^◌, ◌≤◌, ◌<◌}
use native.Mathlib.Omega.{arith}
use lib.ListN.{length}
use Rattle.std.specs.Prelude.{Ok, Err, IsErr, IsErrAnd}
use mir.Syntax.{w64}
use mir.Val.{Fits}
use Rattle.element.specs.Form.{Role, Step, next, times, item_by, element_of}
use Rattle.refusal.specs.declared.Broken.{Broken}
use Rattle.element.specs.declared.Next.{Next}
use Rattle.element.specs.Code.Items.{items_of}
use Rattle.element.proofs.Steps.{times_more}
use Rattle.walk.specs.Code.Short.{quick_at, quick_after, is_short, Bounded, After, Opens}
use Rattle.walk.specs.Code.Turn.{pair_of}
use Rattle.walk.proofs.Sizes.{is_some, is_small, is_long, tested}
use Rattle.walk.proofs.Quick.{base, Opened, quick_short, quick_holds, after_is}

-- a value or part that the lead byte alone tells of
module _ (s : List ℕ) (left at count z : ℕ) where
  short_value : z ≡ quick_at s left Role.value at count → is_short z ≡ true → element_of s left Role.value at count ≡ next (at + z) (count + 1)
  short_value e u = quick_short s left Role.value at count count z (omega arith) e (is_some z u) (is_small z u)

  pub value_quick : z ≡ quick_at s left Role.value at count → is_short z ≡ true → next (at + z) (count + 1) ≡ element_of s left Role.value at count
  value_quick e u = sym (short_value e u)

  pub value_holds : Opens s left at count z → (z ≡ 0 → ⊥) → (r : Step) (keyed : Bool) (w : ℕ)
      → r ≡ items_of s (left - 1) keyed w (at + 1) (count + 1) → w ≡ z - base keyed → Opened keyed z → r ≡ element_of s left Role.value at count
  value_holds o n r keyed w f e k = f ∙ rw e (sym (quick_holds s left Role.value at count count z (omega arith) o.is n keyed (is_long z o.long n) k))

  -- the sums behind it
  module _ (k : Bounded (length s) left at count z) where
    pub value_behind : is_short z ≡ true → length s < 2 ^ 64 → Fits w64 (at + z)
    value_behind u l = record { fits = omega (arith, is_some z u, is_small z u, k.within, k.there) }

    pub value_counts : (z ≡ 0 → ⊥) → Fits w64 (count + 1)
    value_counts n = record { fits = omega (arith, k.few) }

pub key_quick : (s : List ℕ) (left at count y : ℕ) → y ≡ quick_at s left Role.key at (count + 1) → (y ≡ 0 → ⊥) → y ≤ 32 → next (at + y) (count + 1) ≡ element_of s left Role.key at count
key_quick s left at count y e n h = sym (quick_short s left Role.key at count (count + 1) y (omega arith) e n (omega arith))

-- a key and its value
module _ (s : List ℕ) (left at count : ℕ) where
  module _ (r : Step) (e : r ≡ element_of s left Role.key at count) where
    pub pair_next : (q : Step) (k : Next) → r ≡ Ok k → q ≡ element_of s left Role.value k.at k.count → q ≡ pair_of s left at count
    unfolding pair_of
    pair_next q k n f = rw (← e, n) f

    pub pair_broken : (b : Broken) (q : Step) → r ≡ Err b → q ≡ Err b → q ≡ pair_of s left at count
    unfolding pair_of
    pair_broken b q n f = f ∙ rw (← e, n)

  -- the key that the lead byte tells of, then the value
  module _ (y z : ℕ) (k : y ≡ quick_at s left Role.key at (count + 1)) (m : y ≤ 32) (e : z ≡ quick_after s left at count y)
      (g : After (length s) left at count y z) (n : z ≡ 0 → ⊥) where
    some_key : y ≡ 0 → ⊥
    some_key h = omega (arith, g.key)

    after_value : (q : Step) → q ≡ element_of s left Role.value (at + y) (count + 1) → q ≡ pair_of s left at count
    after_value q f =
        pair_next (element_of s left Role.key at count) refl q (record { at = at + y; count = count + 1 })
        (quick_short s left Role.key at count (count + 1) y (omega arith) k some_key (omega arith)) f

    value_is : z ≡ quick_at s left Role.value (at + y) (count + 1)
    value_is = after_is s left at count y z some_key e

    two : count + 2 ≡ count + 1 + 1
    two = omega arith

    pub pair_short : is_short z ≡ true → next (at + y + z) (count + 2) ≡ pair_of s left at count
    pair_short u = after_value (next (at + y + z) (count + 2)) (ap (λ (c : ℕ). next (at + y + z) c) two ∙ sym (short_value s left (at + y) (count + 1) z value_is u))

    pub pair_holds : is_short z ≡ false → (r : Step) (keyed : Bool) (w : ℕ) → r ≡ items_of s (left - 1) keyed w (at + y + 1) (count + 2) → w ≡ z - base keyed → Opened keyed z
        → r ≡ pair_of s left at count
    pair_holds u r keyed w f q o =
        after_value r (f ∙ rw (two, q) (sym (quick_holds s left Role.value (at + y) (count + 1) (count + 1) z (omega arith) value_is n keyed (is_long z u n) o)))

  -- the sums of a pair
  module _ (y z : ℕ) (a : After (length s) left at count y z) (n : z ≡ 0 → ⊥) where
    pub pair_inside : length s < 2 ^ 64 → Fits w64 (at + y)
    pair_inside l = record { fits = omega (arith, a.bounds.there) }

    pub pair_into : length s < 2 ^ 64 → Fits w64 (at + y + 1)
    pair_into l = record { fits = omega (arith, a.bounds.there) }

    pub pair_behind : is_short z ≡ true → length s < 2 ^ 64 → Fits w64 (at + y + z)
    pair_behind u l = record { fits = omega (arith, is_small z u, a.bounds.there, a.bounds.within) }

    pub pair_counts : Fits w64 (count + 2)
    pair_counts = record { fits = omega (arith, a.bounds.few) }

    pub pair_level : 1 ≤ left
    pair_level = omega (arith, a.bounds.deep)

    pub pair_sinks : (t : ℕ) → 5 * left + 2 ≡ t → 5 * (left - 1) + 4 < t
    pair_sinks t m = omega (arith, a.bounds.deep)

pub ruleset items = (value_quick, key_quick, value_holds, value_behind, value_counts, pair_next, pair_broken, pair_short, pair_holds, pair_inside, pair_into, pair_behind, pair_counts, pair_level, pair_sinks, tested, is_some, is_long)

-- one part, or one pair
abbrev item : List ℕ → ℕ → Bool → ℕ → ℕ → Step
item s left false at count = element_of s left Role.value at count
item s left true at count = pair_of s left at count

item_is : (s : List ℕ) (left : ℕ) (keyed : Bool) (at count : ℕ) → item_by (element_of s left) keyed at count ≡ item s left keyed at count
unfolding pair_of
item_is s left false at count = refl
item_is s left true at count = refl

-- what `?` hands on is the break that it was given
pub err_again : (q : Step) (b : Broken) → IsErr q × IsErrAnd q (λ x. x ≡ b) → {w : Step} → Err b ≡ w → q ≡ w
err_again (Ok n) b p e = absurd p.1
err_again (Err x) b p e = ap (λ (y : Broken). Err y) p.1 ∙ e

-- a loop over n items: the answer from here is the answer w
module _ (s : List ℕ) (left : ℕ) (keyed : Bool) (w : Step) (n at count : ℕ) (i : w ≡ items_of s left keyed n at count) where
  pub items_done : n ≤ 0 → next at count ≡ w
  unfolding items_of times
  items_done h =
      let z : n ≡ 0 = omega arith in
      sym (i ∙ rw z)

  module _ (h : 0 < n) (r : Step) (e : r ≡ item s left keyed at count) where
    pub items_next : (a c : ℕ) → r ≡ next a c → w ≡ items_of s left keyed (n - 1) a c
    unfolding items_of
    items_next a c q = i ∙ rw times_more (rw (item_is s left keyed at count, ← e, q))

    pub items_broken : (b : Broken) → r ≡ Err b → Err b ≡ w
    unfolding items_of
    items_broken b q = sym (i ∙ rw times_more (rw (item_is s left keyed at count, ← e, q)))

-- the same at the turn i of n
module _ (s : List ℕ) (left : ℕ) (keyed : Bool) (w : Step) (n i at count : ℕ) (e : w ≡ items_of s left keyed (n - i) at count) where
  pub turns_done : n ≤ i → next at count ≡ w
  turns_done h = items_done s left keyed w (n - i) at count e (omega arith)

  module _ (h : i < n) (r : Step) (f : r ≡ item s left keyed at count) where
    pub turns_next : (k : Next) → r ≡ Ok k → w ≡ items_of s left keyed (n - (i + 1)) k.at k.count
    turns_next k q =
        let m : n - (i + 1) ≡ n - i - 1 = omega arith in
        items_next s left keyed w (n - i) at count e (omega arith) r f k.at k.count q ∙ rw m

    pub turns_broken : (b : Broken) → r ≡ Err b → Err b ≡ w
    turns_broken b g = items_broken s left keyed w (n - i) at count e (omega arith) r f b g

pub ruleset turns = (turns_done, tested)
