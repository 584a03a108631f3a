-- One element: its tests in their order, where its body ends, what stands behind its head, and what the walk answers from that.
-- Each law has the shape of what the code asks where it returns: the premises are what its tests showed there. Assumes nothing.
use mathlib.Core.Path.{◌≡◌, refl, sym, ap, ap₂, ◌∙◌}
use mathlib.Core.{Bool.Bool, Bool.true, Bool.false, List.List}
use Prim.Native.Nat.{ℕ, ◌+◌, ◌-◌, ◌*◌, ◌^◌, ◌≤◌, ◌<◌}
use native.Mathlib.Omega.{arith}
use lib.{Dec.leb, Dec.lit<, Dec.lit≤, ListN.length, ListN.get_or}
use Rattle.std.specs.Prelude.{Option, Some, None}
use mir.Syntax.{w64}
use mir.Val.{Fits}
use borrow.Author.Tests.{le-leb, lt-leb, eq-eqb, ne_eqb}
use Rattle.refusal.specs.declared.Refusal.{Refusal}
use Rattle.refusal.specs.declared.Refusal.TheVariants as refusal
use Rattle.octets.specs.Number.{big_at, if_there}
use Rattle.octets.proofs.Widths.{within}
use Rattle.element.specs.declared.Shape.{Shape, TheVariants.Array}
use Rattle.element.specs.declared.Head.{Head}
use Rattle.element.specs.declared.Span.{Span, TheVariants.Cut, TheVariants.Ends, TheVariants.Holds}
use Rattle.element.specs.{Lead.row_in, Lead.lead_bytes, Lead.head_of, Code.Items.items_of}
use Rattle.element.specs.Form.{Role, Step, next, broken, is_text, not_outer, fault_of, body_of, content_of, span_of, spanned, element_of}
use Rattle.element.proofs.Steps.{fault_none, element_span, element_fault, body_ends}
use Rattle.walk.specs.{Code.Short.Announces, Code.Turn.role_of}

-- the tests of an element, in their order
module _ (s : List ℕ) (left : ℕ) (key : Bool) (at count : ℕ) where
  pub fault_4 : length s ≤ at → Some refusal.Cut ≡ fault_of s left (role_of key) at count
  unfolding fault_of
  fault_4 h = simp (le-leb _ _ h)

  module _ (h : at < length s) where
    pub fault_5 : get_or s at 0 ≡ 0xC1 → Some refusal.NeverUsed ≡ fault_of s left (role_of key) at count
    unfolding fault_of
    fault_5 e = simp (lt-leb _ _ h, eq-eqb _ _ e)

    module _ (e : get_or s at 0 ≡ 0xC1 → ⊥) where
      inner : (key : Bool) → not_outer (role_of key) (head_of (get_or s at 0)).shape ≡ false
      inner true = refl
      inner false = refl

      pub fault_7 : (most : ℕ) → most ≤ count → 1024 ≤ most → Some refusal.TooManyElements ≡ fault_of s left (role_of key) at count
      unfolding fault_of
      fault_7 most m k = simp (lt-leb _ _ h, ne_eqb _ _ e, inner key, le-leb 1024 count (omega arith))

      module _ (m : count < 1024) where
        pub fault_6 : left ≡ 0 → Some refusal.TooDeep ≡ fault_of s left (role_of key) at count
        unfolding fault_of
        fault_6 d = simp (lt-leb _ _ h, ne_eqb _ _ e, inner key, lt-leb _ _ m, eq-eqb _ _ d)

        module _ (d : left ≡ 0 → ⊥) where
          pub fault_value : key ≡ false → None ≡ fault_of s left (role_of key) at count
          unfolding fault_of
          fault_value k = simp (lt-leb _ _ h, ne_eqb _ _ e, lt-leb _ _ m, ne_eqb _ _ d, k)

          module _ (k : key ≡ true) (r : Bool) (t : r ≡ is_text (head_of (get_or s at 0)).shape) where
            pub fault_key : r ≡ true → None ≡ fault_of s left (role_of key) at count
            unfolding fault_of
            fault_key u = simp (lt-leb _ _ h, ne_eqb _ _ e, lt-leb _ _ m, ne_eqb _ _ d, k, sym t, u)

            pub fault_8 : r ≡ false → Some refusal.KeyNotText ≡ fault_of s left (role_of key) at count
            unfolding fault_of
            fault_8 u = simp (lt-leb _ _ h, ne_eqb _ _ e, lt-leb _ _ m, ne_eqb _ _ d, k, sym t, u)

pub ruleset faults = (fault_4, fault_5, fault_7, fault_6, fault_value, fault_key, fault_8, lit≤)

-- a body of n bytes
pub body_cut : (len from n : ℕ) → len - from < n → Cut ≡ body_of len from n
unfolding body_of
body_cut len from n h = simp (lt-leb _ _ h)

pub ruleset bodies = (body_ends, body_cut)

-- a length of at most four bytes, and what is added to it, fit
pub length_fits : (h : Head) (x : ℕ) → h.wide ≤ 4 → h.more ≤ 31 → x < 256 ^ h.wide → Fits w64 (h.more + x)
length_fits h x w m l =
    let small = within 256 h.wide 4 x (lit< tt) l w in
    record { fits = omega arith }

-- what stands behind a head
module _ (s : List ℕ) (at : ℕ) (h : Head) (lt : at < length s) (y : Announces (get_or s at 0) h) where
  pub span_cut : length s - at - 1 < h.wide → Cut ≡ span_of s at
  unfolding span_of
  span_cut g = rw (← y.is) (simp (lt-leb (at + 1 + h.wide) (length s) (omega arith)))

  pub span_shape : h.wide ≤ length s - at - 1 → (x : ℕ) → x ≡ if_there s (at + 1) h.wide (big_at s (at + 1) h.wide)
      → (c : Shape) → h.shape ≡ c → (r : Span) → r ≡ content_of c (length s) (at + 1 + h.wide) (h.more + x) → r ≡ span_of s at
  unfolding span_of
  span_shape g x f c k r q =
      let n : x ≡ big_at s (at + 1) h.wide = f ∙ simp (le-leb h.wide 8 (omega (arith, y.wide)), le-leb (at + 1 + h.wide) (length s) (omega arith)) in
      rw (← y.is) (simp (le-leb (at + 1 + h.wide) (length s) (omega arith), k, ← n) q)

pub ruleset spans = (length_fits, span_cut, span_shape)

-- an array with two bytes of length
long_head : head_of 0xDC ≡ record { shape = Array; wide = 2; more = 0 }
unfolding head_of row_in lead_bytes
long_head = refl

module _ (s : List ℕ) (at : ℕ) (there : at < length s) (e : get_or s at 0 ≡ 0xDC) where
  pub long_cut : length s - at - 1 < 2 → Cut ≡ span_of s at
  unfolding span_of
  long_cut g = sym (rw (e, long_head) (simp (lt-leb (at + 1 + 2) (length s) (omega arith))))

  pub long_holds : (x : ℕ) → 2 ≤ length s - at - 1 → x ≡ if_there s (at + 1) 2 (big_at s (at + 1) 2) → Holds (at + 3) x false ≡ span_of s at
  unfolding span_of
  long_holds x g f =
      let j : leb (at + 1 + 2) (length s) ≡ true = le-leb (at + 1 + 2) (length s) (omega arith) in
      let b : x ≡ big_at s (at + 1) 2 = f ∙ simp j in
      let v : 0 + big_at s (at + 1) 2 ≡ x = omega arith in
      let p : at + 1 + 2 ≡ at + 3 = omega arith in
      sym (rw (e, long_head) (simp j (ap₂ (λ (a b : ℕ). Holds a b false) p v)))

pub is_long : (s : List ℕ) (at : ℕ) → at < length s → get_or s at 0 ≡ 0xDC → (at < length s) × (get_or s at 0 ≡ 0xDC)
is_long s at h e = (h, e)

pub ruleset longs = (long_cut, long_holds, is_long, arith)

-- an element without a fault, by its span
module _ (s : List ℕ) (left : ℕ) (role : Role) (at count : ℕ) (f : Option Refusal) (e : f ≡ fault_of s left role at count) (z : f ≡ None) where
  pub there_is : at < length s
  there_is = (fault_none s left role at count (sym e ∙ z)).there

  pub one_more : Fits w64 (count + 1)
  one_more = record { fits = omega (arith, (fault_none s left role at count (sym e ∙ z)).few) }

  pub level : 1 ≤ left
  level = (fault_none s left role at count (sym e ∙ z)).deep

  pub sinks : (t : ℕ) → 5 * left ≡ t → 5 * (left - 1) + 4 < t
  sinks t m = omega (arith, (fault_none s left role at count (sym e ∙ z)).deep)

  module _ (sp : Span) (p : sp ≡ span_of s at) where
    by_span : (x : Span) → sp ≡ x → spanned (element_of s (left - 1)) x at (count + 1) ≡ element_of s left role at count
    by_span x q =
        sym (element_span s left role at count (sym e ∙ z) ∙ ap (λ (y : Span). spanned (element_of s (left - 1)) y at (count + 1)) (sym p ∙ q))

    pub element_cut : sp ≡ Cut → broken refusal.Cut at ≡ element_of s left role at count
    element_cut q = by_span Cut q

    pub element_ends : (n : ℕ) → sp ≡ Ends n → next n (count + 1) ≡ element_of s left role at count
    element_ends n q = by_span (Ends n) q

    pub element_holds : (m n : ℕ) (k j : Bool) (r : Step) → sp ≡ Holds m n k → k ≡ j → r ≡ items_of s (left - 1) j n m (count + 1) → r ≡ element_of s left role at count
    unfolding items_of
    element_holds m n k j r q u g = g ∙ by_span (Holds m n j) (q ∙ ap (λ (x : Bool). Holds m n x) u)

pub ruleset elements = (there_is, one_more, level, sinks, element_fault, element_cut, element_ends, element_holds, arith)
