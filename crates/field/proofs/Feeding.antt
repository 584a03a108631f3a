-- A version byte by byte, each law in the shape of a need of the code. Assumes nothing.
use mathlib.Core.Path.{◌≡◌, refl, sym, ap, ap₂, ◌∙◌}
use mathlib.Core.Bool.{Bool, true, false, ◌&&◌, and-false}
use mathlib.Core.Option.{some, none}
use mathlib.Core.List.{List}
use Prim.Native.Nat.{ℕ, zero, suc, ◌+◌, ◌-◌, ◌*◌, ◌≤◌, ◌<◌}
use native.Mathlib.Nat.{add-zero, sub-zero}
use native.Mathlib.Omega.{arith}
use lib.Dec.{eqb}
use Rattle.octets.specs.Choice.{either}
use lib.ListN.{length, get_or, take, drop}
use borrow.Author.Tests.{le-leb, lt-leb, ne_eqb, eq-eqb}
use Rattle.std.specs.Prelude.{Option as Answer, Some, None}
use Rattle.field.specs.declared.{Released.Released, Release.Release, Extent.Extent}
use Rattle.field.specs.{Kind.Kind, Kind.Value, Version.version_of, Judge.judge, Cell.release_of, Code.Read.tell, Code.Read.read_at}
use Rattle.field.specs.{Code.Extent.Bears}
use Rattle.field.specs.Code.Feed.{release, unfed, dot_by, dotted_of, digit_of, fed_of, on_fed, fed_all, outcome_of}
use Rattle.field.proofs.{Texts.by_text, Strings.take_more, Versions.version_is}

-- a dot
module _ (v : Release) where
  by_dot : v.digit ≡ true → (n : ℕ) → v.dots ≡ n → dot_by v n ≡ dotted_of v
  unfolding dotted_of
  by_dot t n e = sym (simp (t, e))

  pub dot_first : v.digit ≡ true → v.dots ≡ 0 → Some (release 1 false v.number 0 0) ≡ dotted_of v
  dot_first t e = by_dot t 0 e

  pub dot_second : v.digit ≡ true → v.dots ≡ 1 → Some (release 2 false v.first v.number 0) ≡ dotted_of v
  dot_second t e = by_dot t 1 e

  pub dot_third : v.digit ≡ true → (v.dots ≡ 0 → ⊥) → (v.dots ≡ 1 → ⊥) → None ≡ dotted_of v
  dot_third t f g = go v.dots f g ∙ by_dot t v.dots refl
    where
      go : (n : ℕ) → (n ≡ 0 → ⊥) → (n ≡ 1 → ⊥) → None ≡ dot_by v n
      go zero f g = absurd (f refl)
      go (suc zero) f g = absurd (g refl)
      go (suc (suc n)) f g = refl

  pub dot_none : v.digit ≡ false → None ≡ dotted_of v
  unfolding dotted_of
  dot_none t = sym (simp t)

pub ruleset dots = (dot_first, dot_second, dot_third, dot_none)

-- a digit
module _ (v : Release) (d : ℕ) where
  pub digit_zero : v.digit && eqb v.number 0 ≡ true → None ≡ digit_of v d
  unfolding digit_of
  digit_zero t = sym (simp t)

  module _ (t : v.digit && eqb v.number 0 ≡ false) where
    pub digit_over : 65535 < v.number * 10 + d → None ≡ digit_of v d
    unfolding digit_of
    digit_over h = sym (simp (t, lt-leb (v.number * 10 + d) 65535 h))

    pub digit_more : v.number * 10 + d ≤ 65535 → Some (release v.dots true v.first v.second (v.number * 10 + d)) ≡ digit_of v d
    unfolding digit_of
    digit_more h = sym (simp (t, le-leb (v.number * 10 + d) 65535 h))

pub ruleset digits = (digit_zero, digit_over, digit_more, arith)

-- a byte
module _ (v : Release) (c : ℕ) where
  pub fed_dot : (r : Answer Release) → c ≡ 0x2E → r ≡ dotted_of v → r ≡ fed_of v c
  unfolding fed_of
  fed_dot r e q = q ∙ sym (simp (eq-eqb c 0x2E e))

  pub fed_low : (c ≡ 0x2E → ⊥) → c < 0x30 → None ≡ fed_of v c
  unfolding fed_of
  fed_low f h = sym (simp (ne_eqb c 0x2E f, lt-leb 0x30 c h))

  pub fed_high : (c ≡ 0x2E → ⊥) → 0x39 < c → None ≡ fed_of v c
  unfolding fed_of
  fed_high f h = sym (simp (ne_eqb c 0x2E f, lt-leb c 0x39 h, and-false))

  pub fed_digit : (r : Answer Release) → (c ≡ 0x2E → ⊥) → 0x30 ≤ c → c ≤ 0x39 → r ≡ digit_of v (c - 0x30) → r ≡ fed_of v c
  unfolding fed_of
  fed_digit r f g h q = q ∙ sym (simp (ne_eqb c 0x2E f, le-leb 0x30 c g, le-leb c 0x39 h))

pub ruleset feeds = (fed_dot, fed_low, fed_high, fed_digit, arith)

-- all bytes
pub scan_start : (s : List ℕ) (from n : ℕ) → fed_all unfed (take (n - 0) (drop (from + 0) s)) ≡ fed_all unfed (take n (drop from s))
scan_start s from n = rw (sub-zero, add-zero)

module _ (s : List ℕ) (from n : ℕ) (v : Release) (i : ℕ) (z : Answer Release) (e : fed_all v (take (n - i) (drop (from + i) s)) ≡ z) where
  pub scan_done : n ≤ i → Some v ≡ z
  unfolding fed_all
  scan_done h =
      let k : n - i ≡ 0 = omega arith in
      sym (ap (λ (j : ℕ). fed_all v (take j (drop (from + i) s))) k) ∙ e

  module _ (h : from + n ≤ length s) (l : i < n) (x : Answer Release) (q : x ≡ fed_of v (get_or s (from + i) 0)) where
    by_feed : (y : Answer Release) → x ≡ y → on_fed y (λ w. fed_all w (take (n - (i + 1)) (drop (from + (i + 1)) s))) ≡ z
    unfolding fed_all
    by_feed y p =
        ap (λ (f : Answer Release). on_fed f (λ w. fed_all w (take (n - (i + 1)) (drop (from + (i + 1)) s)))) (sym p ∙ q)
        ∙ sym (ap (fed_all v) (take_more s from n i h l)) ∙ e

    pub scan_on : (w : Release) → x ≡ Some w → fed_all w (take (n - (i + 1)) (drop (from + (i + 1)) s)) ≡ z
    scan_on w p = by_feed (Some w) p

    pub scan_off : x ≡ None → None ≡ z
    scan_off p = by_feed None p

pub ruleset scans = (scan_start, scan_done, scan_on, scan_off, arith)

-- the end
module _ (v : Release) where
  ended : (a b : Bool) → eqb v.dots 2 ≡ a → v.digit ≡ b → tell release_of (either (a && b) (λ _. some (Value.release v.first v.second v.number)) (λ _. none)) ≡ tell release_of (outcome_of (Some v))
  ended a b e f = sym (ap₂ (λ (x y : Bool). tell release_of (either (x && y) (λ _. some (Value.release v.first v.second v.number)) (λ _. none))) e f)

  pub end_dots : (v.dots ≡ 2 → ⊥) → None ≡ tell release_of (outcome_of (Some v))
  unfolding tell
  end_dots h = ended false v.digit (ne_eqb v.dots 2 h) refl

  pub end_digit : v.digit ≡ false → None ≡ tell release_of (outcome_of (Some v))
  unfolding tell
  end_digit h = go (eqb v.dots 2) refl
    where
      go : (b : Bool) → eqb v.dots 2 ≡ b → None ≡ tell release_of (outcome_of (Some v))
      go true e = ended true false e h
      go false e = ended false v.digit e refl

  pub end_good : v.dots ≡ 2 → v.digit ≡ true → Some (record { major = v.first; minor = v.second; patch = v.number }) ≡ tell release_of (outcome_of (Some v))
  unfolding tell
  end_good e f = ended true true (eq-eqb v.dots 2 e) f

pub ruleset endings = (end_dots, end_digit, end_good, arith)

module _ (s : List ℕ) (at : ℕ) (p : Answer Extent) (y : Bears s at p) where
  pub version_within : (t : Extent) → p ≡ Some t → t.from + t.size ≤ length s
  version_within t e = y.within t e

  pub version_bad : p ≡ None → None ≡ read_at release_of Kind.versions s at
  unfolding read_at judge tell
  version_bad e = ap (tell release_of) (by_text s at p y None e version_of)

  module _ (t : Extent) (e : p ≡ Some t) (f : Answer Release) (q : f ≡ fed_all unfed (take t.size (drop t.from s))) where
    by_version : tell release_of (outcome_of f) ≡ read_at release_of Kind.versions s at
    unfolding read_at judge
    by_version =
        ap (tell release_of) (ap outcome_of q ∙ version_is (take t.size (drop t.from s)) ∙ by_text s at p y (Some t) e version_of)

    pub version_good : (v : Release) → f ≡ Some v → (r : Answer Released) → r ≡ tell release_of (outcome_of (Some v)) → r ≡ read_at release_of Kind.versions s at
    version_good v g r h = h ∙ ap (λ (i : Answer Release). tell release_of (outcome_of i)) (sym g) ∙ by_version

    pub version_off : f ≡ None → None ≡ read_at release_of Kind.versions s at
    unfolding tell
    version_off g = ap (λ (i : Answer Release). tell release_of (outcome_of i)) (sym g) ∙ by_version

pub ruleset versions = (version_within, version_good, version_bad, version_off, arith)
