-- What the lead byte at a place tells: where it tells something, the walk goes on behind the element or with what it holds; and the code tells just that.
-- Assumes nothing.
use mathlib.Core.Path.{◌≡◌, refl, sym, ap, ap₂, ◌∙◌}
use mathlib.Core.Bool.{Bool, true, false, not, ◌||◌}
use mathlib.Core.List.{List}
use Prim.Native.Nat.{ℕ, zero, suc, ◌+◌, ◌-◌, ◌%◌, ◌≤◌, ◌<◌}
use native.Mathlib.Omega.{arith}
use lib.Dec.{T, ltb, leb, eqb, eqb→eq}
use lib.ListN.{length, get_or}
use Rattle.std.specs.Prelude.{Option, Some, None, is_none}
use mir.Syntax.{w8}
use mir.Val.{Fits}
use borrow.Author.Tests.{lt-ltb, le-ltb, le-leb, lt-leb, eq-eqb, ne_eqb, eqb-true, eqb-false, leb-true}
use Rattle.refusal.specs.declared.Refusal.{Refusal}
use Rattle.octets.specs.{Choice.either, Number.big_at}
use Rattle.octets.proofs.Ranges.{ranged, true_false}
use Rattle.element.specs.declared.Shape.{Shape, TheVariants.Never, TheVariants.Plain, TheVariants.Text, TheVariants.Array, TheVariants.Map}
use Rattle.element.specs.declared.Head.{Head}
use Rattle.element.specs.declared.Span.{Span, TheVariants.Ends, TheVariants.Holds}
use Rattle.element.specs.{Lead.head_of, Lead.lead_bytes, Lead.row_in, Code.Items.items_of}
use Rattle.element.specs.Form.{Role, next, is_text, fault_of, body_of, span_by, span_of, spanned, element_of}
use Rattle.element.proofs.Leads.{head_more}
use Rattle.element.proofs.Steps.{fault_none, none_fault, element_span, suits_value}
use Rattle.walk.specs.Code.Short.{two_to, is_number, quick_by, quick_of, present, quick_at, quick_after, Bounded, After}
use Rattle.walk.proofs.Leads.{row, text_fix}
use Rattle.walk.proofs.Sizes.{size_low, size_text, size_byte, size_number, size_never}

-- the span that r tells of
abbrev told_span : ℕ → ℕ → Span
told_span at r =
    either (ltb r 64) (λ _. Ends (at + r))
    (λ _. either (ltb r 128) (λ _. Holds (at + 1) (r - 64) true) (λ _. Holds (at + 1) (r - 128) false))

told_span_lem : (s : List ℕ) (at : ℕ) → at < length s → (c : Shape) (w m r : ℕ) → r ≡ quick_by c w m → m ≤ 31 → (r ≡ 0 → ⊥) → (r < 64 → r ≤ length s - at)
    → span_by s at (row c w m) ≡ told_span at r
unfolding big_at body_of
told_span_lem s at h Never w m r e k n l = absurd (n e)
told_span_lem s at h Plain zero m r e k n l =
    let f = l (omega arith) in
    simp (le-leb (at + 1 + 0) (length s) (omega arith), le-leb (m + 0) (length s - (at + 1 + 0)) (omega arith), lt-ltb r 64 (omega arith))
    (ap (λ (x : ℕ). Ends x) (omega arith))
told_span_lem s at h Plain (suc w) m r e k n l = absurd (n e)
told_span_lem s at h Text zero m r e k n l =
    let f = l (omega arith) in
    simp (le-leb (at + 1 + 0) (length s) (omega arith), le-leb (m + 0) (length s - (at + 1 + 0)) (omega arith), lt-ltb r 64 (omega arith))
    (ap (λ (x : ℕ). Ends x) (omega arith))
told_span_lem s at h Text (suc w) m r e k n l = absurd (n e)
told_span_lem s at h Array zero m r e k n l =
    simp (le-leb (at + 1 + 0) (length s) (omega arith), le-ltb r 64 (omega arith), le-ltb r 128 (omega arith))
    (ap₂ (λ (x y : ℕ). Holds x y false) (omega arith) (omega arith))
told_span_lem s at h Array (suc w) m r e k n l = absurd (n e)
told_span_lem s at h Map zero m r e k n l =
    simp (le-leb (at + 1 + 0) (length s) (omega arith), le-ltb r 64 (omega arith), lt-ltb r 128 (omega arith))
    (ap₂ (λ (x y : ℕ). Holds x y true) (omega arith) (omega arith))
told_span_lem s at h Map (suc w) m r e k n l = absurd (n e)

-- what an answer that is not 0 says
chosen : (a b c : Bool) (q r : ℕ) → r ≡ either a (λ _. either b (λ _. either c (λ _. q) (λ _. 0)) (λ _. q)) (λ _. 0) → (r ≡ 0 → ⊥)
    → (a ≡ true) × (b ≡ true → c ≡ true) × (r ≡ q)
chosen false b c q r e z = absurd (z e)
chosen true false c q r e z = (refl, λ u. true_false (sym u), e)
chosen true true false q r e z = absurd (z e)
chosen true true true q r e z = (refl, λ u. refl, e)

-- where the numbers of a map and of an array begin, and which of them are a map's and an array's
abbrev pub base : Bool → ℕ
base true = 64
base false = 128

abbrev pub Opened : Bool → ℕ → Type 0
Opened true r = r < 128
Opened false r = 128 ≤ r

is_nothing : (f : Option Refusal) → is_none f ≡ true → f ≡ None
is_nothing None e = refl
is_nothing (Some r) e = true_false (sym e)

-- told with so many elements counted, or with more
module _ (s : List ℕ) (left : ℕ) (role : Role) (at count more r : ℕ) (l : count ≤ more) (e : r ≡ quick_at s left role at more) (z : r ≡ 0 → ⊥) where
  abbrev head : Head
  head = head_of (get_or s at 0)

  abbrev lead : ℕ
  lead = quick_of (get_or s at 0)

  parts : (is_none (fault_of s left role at more) ≡ true) × (ltb lead 64 ≡ true → leb lead (length s - at) ≡ true) × (r ≡ lead)
  unfolding quick_at
  parts = chosen (is_none (fault_of s left role at more)) (ltb lead 64) (leb lead (length s - at)) lead r e z

  sound : fault_of s left role at count ≡ None
  sound =
      let f = fault_none s left role at more (is_nothing (fault_of s left role at more) parts.0) in
      none_fault s left role at count (record { there = f.there; used = f.used; few = omega (arith, f.few); deep = f.deep; suits = f.suits })

  inside : r < 64 → r ≤ length s - at
  inside h = rw parts.2 (leb-true lead (length s - at) (parts.1 (lt-ltb lead 64 (rw parts.2 at h))))

  by_lead : element_of s left role at count ≡ spanned (element_of s (left - 1)) (told_span at r) at (count + 1)
  unfolding span_of quick_of
  by_lead =
      element_span s left role at count sound
      ∙ ap (λ (x : Span). spanned (element_of s (left - 1)) x at (count + 1))
      (told_span_lem s at (fault_none s left role at count sound).there head.shape head.wide head.more r parts.2 (head_more (get_or s at 0)) z inside)

  -- an element without parts: the walk goes on behind it
  pub quick_short : r < 64 → element_of s left role at count ≡ next (at + r) (count + 1)
  quick_short h = by_lead ∙ simp (lt-ltb r 64 h)

  -- a map or an array: the walk goes on with what it holds
  pub quick_holds : (keyed : Bool) → 64 ≤ r → Opened keyed r → element_of s left role at count ≡ items_of s (left - 1) keyed (r - base keyed) (at + 1) (count + 1)
  unfolding items_of
  quick_holds true g h = by_lead ∙ simp (le-ltb r 64 g, lt-ltb r 128 h)
  quick_holds false g h = by_lead ∙ simp (le-ltb r 64 g, le-ltb r 128 h)

-- the answers of the code: 0 with its reason, or what the lead byte tells
module _ (s : List ℕ) (left : ℕ) (role : Role) (at count : ℕ) where
  faulty : (fault_of s left role at count ≡ None → ⊥) → 0 ≡ quick_at s left role at count
  unfolding quick_at
  faulty n = go (fault_of s left role at count) refl
    where
      go : (f : Option Refusal) → fault_of s left role at count ≡ f → 0 ≡ either (is_none f) (λ _. present (length s - at) (quick_of (get_or s at 0))) (λ _. 0)
      go None e = absurd (n e)
      go (Some r) e = refl

  pub quick_past : length s ≤ at → 0 ≡ quick_at s left role at count
  quick_past h = faulty (λ z. omega (arith, (fault_none s left role at count z).there))

  pub quick_many : (most : ℕ) → most ≤ count → 1024 ≤ most → 0 ≡ quick_at s left role at count
  quick_many most m k = faulty (λ z. omega (arith, (fault_none s left role at count z).few))

  pub quick_deep : left ≡ 0 → 0 ≡ quick_at s left role at count
  quick_deep d = faulty (λ z. omega (arith, (fault_none s left role at count z).deep))

  -- 0 whether there is a fault or not
  either_way : 0 ≡ present (length s - at) (quick_of (get_or s at 0)) → 0 ≡ quick_at s left role at count
  unfolding quick_at
  either_way e = go (is_none (fault_of s left role at count))
    where
      go : (t : Bool) → 0 ≡ either t (λ _. present (length s - at) (quick_of (get_or s at 0))) (λ _. 0)
      go true = e
      go false = refl

  pub quick_cut : (n : ℕ) → n ≡ quick_of (get_or s at 0) → n < 64 → length s - at < n → 0 ≡ quick_at s left role at count
  quick_cut n e k l = either_way (rw (← e) (sym (simp (lt-ltb n 64 k, lt-leb n (length s - at) l))))

  none_told : 0 ≡ quick_of (get_or s at 0) → 0 ≡ quick_at s left role at count
  none_told e = either_way (rw (← e) (sym (simp (le-leb 0 (length s - at) (omega arith)))))

  module _ (n : ℕ) (f : fault_of s left role at count ≡ None) (e : n ≡ quick_of (get_or s at 0)) where
    fits : n < 64 → n ≤ length s - at → n ≡ quick_at s left role at count
    unfolding quick_at
    fits k l = rw (f, ← e) (sym (simp (lt-ltb n 64 k, le-leb n (length s - at) l)))

    opens : 64 ≤ n → n ≡ quick_at s left role at count
    unfolding quick_at
    opens k = rw (f, ← e) (sym (simp (le-ltb n 64 k)))

-- n bytes, where so many are there
pub within_not : (n rest : ℕ) → rest < n → 0 ≡ either (leb n rest) (λ _. n) (λ _. 0)
within_not n rest h = sym (simp (lt-leb n rest h))

pub within_is : (n rest : ℕ) → n ≤ rest → n ≡ either (leb n rest) (λ _. n) (λ _. 0)
within_is n rest h = sym (simp (le-leb n rest h))

-- what a lead byte tells, where so many bytes are there from it on
module _ (b rest n : ℕ) (e : n ≡ quick_of b) where
  pub told_within : n < 64 → (r : ℕ) → r ≡ either (leb n rest) (λ _. n) (λ _. 0) → r ≡ present rest (quick_of b)
  told_within k r f = f ∙ rw (← e) (sym (simp (lt-ltb n 64 k)))

  pub told_opens : 64 ≤ n → n ≡ present rest (quick_of b)
  told_opens k = rw (← e) (sym (simp (le-ltb n 64 k)))

-- a text
pub told_text : (b rest : ℕ) → 0xA0 ≤ b → b < 0xC0 → (r : ℕ) → r ≡ either (leb (b - 0x9F) rest) (λ _. b - 0x9F) (λ _. 0) → r ≡ present rest (quick_of b)
told_text b rest g h r e = told_within b rest (b - 0x9F) (size_text b g h) (omega arith) r e

-- a number
pub told_number : (b rest : ℕ) (i : Bool) → i ≡ is_number b → i ≡ true → b < 256 → (t : ℕ) → t ≡ two_to (b % 4) → t ≤ 16
    → (r : ℕ) → r ≡ either (leb (1 + t) rest) (λ _. 1 + t) (λ _. 0) → r ≡ present rest (quick_of b)
told_number b rest i e u h t f m r g = told_within b rest (1 + t) (size_number b i e u h t f) (omega arith) r g

-- a byte behind CC
told_byte : (b rest : ℕ) → b ≡ 0xCC → 2 ≤ rest → 2 ≡ present rest (quick_of b)
told_byte b rest e h = told_within b rest 2 (size_byte b e) (omega arith) 2 (within_is 2 rest h)

pub ruleset tolds = (told_within, told_text, told_number, told_opens, within_not, within_is)

-- a value or part
module _ (s : List ℕ) (left at count : ℕ) (h : at < length s) (m : count < 1024) (d : left ≡ 0 → ⊥) where
  sound_value : (get_or s at 0 ≡ 0xC1 → ⊥) → fault_of s left Role.value at count ≡ None
  sound_value u =
      none_fault s left Role.value at count
      (record { there = h; used = u; few = m; deep = omega arith; suits = suits_value (head_of (get_or s at 0)).shape })

  pub value_told : (r : ℕ) → r ≡ present (length s - at) (quick_of (get_or s at 0)) → r ≡ quick_at s left Role.value at count
  unfolding quick_at
  value_told r e = go (eqb (get_or s at 0) 0xC1) refl
    where
      go : (t : Bool) → eqb (get_or s at 0) 0xC1 ≡ t → r ≡ either (is_none (fault_of s left Role.value at count)) (λ _. present (length s - at) (quick_of (get_or s at 0))) (λ _. 0)
      go true t =
          let z : 0 ≡ quick_of (get_or s at 0) = size_never (get_or s at 0) (eqb-true (get_or s at 0) 0xC1 t) in
          let f : 0 ≡ present (length s - at) (quick_of (get_or s at 0)) = rw (← z) (sym (simp (le-leb 0 (length s - at) (omega arith)))) in
          e ∙ sym f ∙ either_way s left Role.value at count f
      go false t = rw (sound_value (eqb-false (get_or s at 0) 0xC1 t)) e

  pub value_one : get_or s at 0 < 0x80 → 1 ≡ quick_at s left Role.value at count
  value_one l =
      value_told 1 (rw (← size_low (get_or s at 0) l) (sym (simp (le-leb 1 (length s - at) (omega arith)))))

  pub value_two : get_or s at 0 ≡ 0xCC → 2 ≤ length s - at → 2 ≡ quick_at s left Role.value at count
  value_two e l = value_told 2 (told_byte (get_or s at 0) (length s - at) e l)

-- a lead byte that is no short text is no short key
abbrev no_key : ℕ → Bool
no_key b = not (is_text (head_of b).shape) || eqb (quick_of b) 0

-- a key, with one element more counted
module _ (s : List ℕ) (left at count : ℕ) where
  key_none : T (no_key (get_or s at 0)) → 0 ≡ quick_at s left Role.key at (count + 1)
  key_none t = go (is_text (head_of (get_or s at 0)).shape) refl t
    where
      go : (x : Bool) → is_text (head_of (get_or s at 0)).shape ≡ x → T (not x || eqb (quick_of (get_or s at 0)) 0) → 0 ≡ quick_at s left Role.key at (count + 1)
      go true e u = none_told s left Role.key at (count + 1) (sym (eqb→eq (quick_of (get_or s at 0)) 0 u))
      go false e u = faulty s left Role.key at (count + 1) (λ z. true_false (sym (ap not e) ∙ (fault_none s left Role.key at (count + 1) z).suits.as_key))

  pub key_many : 1023 ≤ count → 0 ≡ quick_at s left Role.key at (count + 1)
  key_many m = quick_many s left Role.key at (count + 1) 1024 (omega arith) (omega arith)

  pub key_low : get_or s at 0 < 0xA0 → 0 ≡ quick_at s left Role.key at (count + 1)
  unfolding quick_of head_of lead_bytes row_in
  key_low l = key_none (ranged no_key 0 0xA0 tt (get_or s at 0) (omega arith) (omega arith))

  pub key_high : 0xC0 ≤ get_or s at 0 → ((i : ℕ) → Fits w8 (get_or s i 0)) → 0 ≡ quick_at s left Role.key at (count + 1)
  unfolding quick_of head_of lead_bytes row_in
  key_high g l = key_none (ranged no_key 0xC0 0x40 tt (get_or s at 0) g (omega (arith, l at)))

  module _ (g : 0xA0 ≤ get_or s at 0) (k : get_or s at 0 < 0xC0) where
    pub key_cut : length s - at < get_or s at 0 - 0x9F → 0 ≡ quick_at s left Role.key at (count + 1)
    key_cut l = quick_cut s left Role.key at (count + 1) (get_or s at 0 - 0x9F) (size_text (get_or s at 0) g k) (omega arith) l

    pub key_fits : at < length s → count < 1023 → (left ≡ 0 → ⊥) → get_or s at 0 - 0x9F ≤ length s - at → get_or s at 0 - 0x9F ≡ quick_at s left Role.key at (count + 1)
    key_fits h m d l =
        fits s left Role.key at (count + 1) (get_or s at 0 - 0x9F)
        (none_fault s left Role.key at (count + 1) (record {
          there = h;
          used = λ z. omega arith;
          few = omega arith;
          deep = omega arith;
          suits = record { as_outer = refl; as_key = ap not (sym (text_fix (get_or s at 0) g k)) };
        }))
        (size_text (get_or s at 0) g k) (omega arith) l

pub ruleset quicks = (quick_past, quick_many, quick_deep, value_told, value_one, key_many, key_fits, key_cut, key_low, key_high)

-- the value behind a key
module _ (s : List ℕ) (left at count y : ℕ) where
  pub after_none : y ≡ 0 → 0 ≡ quick_after s left at count y
  unfolding quick_after
  after_none e = sym (simp (eq-eqb y 0 e))

  pub after_key : (r : ℕ) → (y ≡ 0 → ⊥) → r ≡ quick_at s left Role.value (at + y) (count + 1) → r ≡ quick_after s left at count y
  unfolding quick_after
  after_key r n e = e ∙ sym (simp (ne_eqb y 0 n))

  pub after_is : (r : ℕ) → (y ≡ 0 → ⊥) → r ≡ quick_after s left at count y → r ≡ quick_at s left Role.value (at + y) (count + 1)
  unfolding quick_after
  after_is r n e = e ∙ simp (ne_eqb y 0 n)

pub after_bounds : (len left at count y r : ℕ) → (y ≡ 0 → ⊥) → Bounded len left (at + y) (count + 1) r → After len left at count y r
after_bounds len left at count y r n b = record { key = omega (arith, b.most); bounds = b }

pub ruleset afters = (after_none, after_key, after_bounds)
