-- Parts that are a byte below 0x80, or a byte behind CC: each is passed as an element of its own, and so are eight by one test. Assumes nothing.
use mathlib.Core.Path.{◌≡◌, refl, sym, subst, ◌∙◌}
use mathlib.Core.Bool.{Bool, true, false, ◌&&◌}
use mathlib.Core.List.{List}
use Prim.Native.Nat.{ℕ, zero, suc, ◌+◌, ◌-◌, ◌*◌, ◌^◌, ◌≤◌, ◌<◌}
use native.Mathlib.Omega.{arith}
use lib.Dec.{T, leb, leb→le, lit≤}
use lib.ListN.{length, get_or}
use Rattle.std.specs.Prelude.{Option, Some, IfSome}
use mir.Syntax.{w64}
use mir.Val.{Fits}
use borrow.Author.Tests.{le-leb, lt-leb}
use Rattle.octets.specs.{Number.is_there, Code.Low.are_low}
use Rattle.octets.proofs.{Lows.low_there, Lows.low_each, Ranges.true_is, Ranges.both_left, Ranges.both_right, Reading.inside}
use Rattle.element.specs.{Form.Role, Form.element_of, Code.Items.items_of}
use Rattle.walk.specs.Code.Run.{eight_more, Follows, Passes, Ran}
use Rattle.walk.proofs.{Quick.value_one, Quick.value_two, Turns.value_quick, Turns.items_next}

-- the test for eight parts more
module _ (s : List ℕ) (at n : ℕ) where
  pub more_few : n < 8 → false ≡ eight_more s at n
  unfolding eight_more
  more_few h = sym (simp (lt-leb 8 n h))

  pub more_low : 8 ≤ n → (r : Bool) → r ≡ are_low s at 8 → r ≡ eight_more s at n
  unfolding eight_more
  more_low h r e = e ∙ sym (simp (le-leb 8 n h))

pub ruleset eights = (more_few, more_low)

-- the place behind a part
module _ (s : List ℕ) (at : ℕ) where
  pub follows_low : at < length s → get_or s at 0 < 0x80 → Follows s at (at + 1)
  follows_low h b = record { is = λ left count m d. sym (value_quick s left at count 1 (value_one s left at count h m d b) refl) }

  -- where two bytes are there
  module _ (t : Bool) (e : t ≡ is_there (length s) at 2) (u : t ≡ true) where
    pub first_there : at < length s
    first_there = omega (arith, inside (length s) at 2 t e u)

    pub follows_byte : get_or s at 0 ≡ 0xCC → Follows s at (at + 2)
    follows_byte b =
        let two : 2 ≤ length s - at = omega (arith, inside (length s) at 2 t e u) in
        record { is = λ left count m d. sym (value_quick s left at count 2 (value_two s left at count first_there m d b two) refl) }

    pub behind_fits : (n : ℕ) → n ≤ 2 → length s < 2 ^ 64 → Fits w64 (at + n)
    behind_fits n h l = record { fits = omega (arith, inside (length s) at 2 t e u) }

pub ruleset octet_ends = (first_there, follows_low, follows_byte, behind_fits, lit≤)

-- the same place of the walk, in other words
same : (s : List ℕ) (left n at count k p c : ℕ) → n ≡ k → at ≡ p → count ≡ c → items_of s left false n at count ≡ items_of s left false k p c
same s left n at count k p c x y z = cc

-- what is passed, part by part
module _ (s : List ℕ) (n at : ℕ) where
  pub passes_none : Passes s n at at 0
  passes_none = record {
    is = λ left m count a b c. same s left m at count (m - 0) at (count + 0) (omega arith) refl (omega arith);
    most = omega arith;
  }

  module _ (q i : ℕ) (k : Passes s n at q i) where
    pub passes_one : i < n → (p : ℕ) → Follows s q p → Passes s n at p (i + 1)
    passes_one h p y = record {
      is = λ left m count a b c.
          k.is left m count (omega arith) (omega arith) (omega arith)
          ∙ items_next s left false (items_of s left false (m - i) q (count + i)) (m - i) q (count + i) refl (omega arith)
          (element_of s left Role.value q (count + i)) refl p (count + i + 1) (y.is left (count + i) (omega arith) (λ e. omega arith))
          ∙ same s left (m - i - 1) p (count + i + 1) (m - (i + 1)) p (count + (i + 1)) (omega arith) refl (omega arith);
      most = omega arith;
    }

    -- by the answer of the code
    pub passes_some : i < n → (r : Option ℕ) → IfSome r (λ p. Follows s q p) → (p : ℕ) → r ≡ Some p → Passes s n at p (i + 1)
    passes_some h r y p e = passes_one h p (subst (λ (x : Option ℕ). IfSome x (λ p. Follows s q p)) e y)

  renamed : (q i p j : ℕ) → q ≡ p → i ≡ j → Passes s n at q i → Passes s n at p j
  renamed q i p j e f k = rw (e, f) at k

  all_low : (q i : ℕ) → Passes s n at q i → (j : ℕ) → i + j ≤ n → q + j ≤ length s → ((x : ℕ) → x < j → get_or s (q + x) 0 < 0x80) → Passes s n at (q + j) (i + j)
  all_low q i k zero h l b = renamed q i (q + 0) (i + 0) (omega arith) (omega arith) k
  all_low q i k (suc j) h l b =
      renamed (q + j + 1) (i + j + 1) (q + suc j) (i + suc j) (omega arith) (omega arith)
      (passes_one (q + j) (i + j) (all_low q i k j (omega arith) (omega arith) (λ x g. b x (omega arith))) (omega arith)
      (q + j + 1) (follows_low s (q + j) (omega arith) (b j (omega arith))))

  -- eight more
  module _ (q i : ℕ) (k : Passes s n at q i) (b : Bool) (e : b ≡ eight_more s q (n - i)) (u : b ≡ true) where
    eight : T (leb 8 (n - i) && are_low s q 8)
    unfolding eight_more
    eight = true_is (eight_more s q (n - i)) (sym u ∙ e)

    low : T (are_low s q 8)
    low = both_right (leb 8 (n - i)) (are_low s q 8) eight

    pub eight_left : 8 ≤ n - i
    eight_left = leb→le 8 (n - i) (both_left (leb 8 (n - i)) (are_low s q 8) eight)

    pub eight_there : q + 8 ≤ length s
    eight_there = low_there s q 8 low

    pub passes_eight : Passes s n at (q + 8) (i + 8)
    passes_eight = all_low q i k 8 (omega (arith, eight_left)) eight_there (low_each s q 8 low)

    pub eight_less : n - (i + 8) < n - i
    eight_less = omega (arith, eight_left)

    pub eight_fits : length s < 2 ^ 64 → Fits w64 (q + 8)
    eight_fits l = record { fits = omega (arith, eight_there) }

    pub eight_counts : n < 2 ^ 64 → Fits w64 (i + 8)
    eight_counts l = record { fits = omega (arith, eight_left) }

pub passes_as : (s : List ℕ) (n at q i j : ℕ) → Passes s n at q i → j ≡ i → Passes s n at q j
passes_as s n at q i j k e = rw e k

pub ruleset passings = (passes_as, passes_none, passes_some, passes_eight, eight_less, eight_fits, eight_counts)

-- of an array at a level
pub ran_none : (s : List ℕ) (left n at count : ℕ) → Ran s left n at count at 0
ran_none s left n at count = record { is = same s left n at count (n - 0) at (count + 0) (omega arith) refl (omega arith); most = omega arith; few = omega arith }

pub ran : (s : List ℕ) (left n at count next parts most : ℕ) → Passes s most at next parts → most ≤ n → most ≤ 1024 - count → most ≤ 1024 * left
    → Ran s left n at count next parts
ran s left n at count next parts most k a b c =
    let m = k.most in
    record { is = k.is left n count (omega arith) (omega arith) (omega arith); most = omega arith; few = omega arith }

pub ruleset runs = (ran_none, ran)
