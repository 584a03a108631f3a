-- Arrays of bytes: where the parts of an array stand, and the bytes that they are. Each law in the shape of a need of the code.
-- Assumes nothing.
use mathlib.Core.Path.{◌≡◌, refl, sym, ap, subst, ◌∙◌}
use mathlib.Core.{Bool.Bool, Bool.true, Bool.false, List.List, List.[], List.◌∷◌, Option.Option, Option.some, Option.none}
use Prim.Native.Nat.{ℕ, zero, suc, ◌+◌, ◌-◌, ◌≤◌, ◌<◌}
use native.Mathlib.Nat.{zero-add}
use native.Mathlib.Omega.{arith}
use lib.ListN.{length, get_or}
use Rattle.octets.specs.{Number.big_at, Number.is_there, Number.if_there}
use Rattle.octets.proofs.{Ranges.true_false, Reading.inside}
use Rattle.element.specs.declared.Shape.{Shape, TheVariants.Never, TheVariants.Plain, TheVariants.Text, TheVariants.Array, TheVariants.Map}
use Rattle.element.specs.declared.Span.TheVariants.{Holds}
use Rattle.element.specs.{Lead.Class, Lead.class_of, Form.content_of, Form.span_of, Meaning.Elements, Meaning.leaf_of, Code.At.leaf_at}
use Rattle.number.specs.Number.{number_of}
use Rattle.walk.proofs.{Leads.row, Leads.says_fixarray, Leads.says_array, Elements.length_fits}
use Rattle.std.specs.Prelude.{Option as Answer, Some, None}
use Rattle.field.specs.declared.{Opened.Opened, Extent.Extent}
use Rattle.field.specs.{Kind.Value, Code.At.end_of, Code.At.leaves_from, Code.At.shallow_at, Code.Item.naturals_from}
use Rattle.field.specs.Judge.{on_some, parts_of, natural_in, naturals_in}
use Rattle.field.specs.Code.Extent.{opened_at, is_array, parts_in, Lists}
use Rattle.field.proofs.{Shallow.by_shallow, Shallow.shallow_past, Shallow.leaf_all, Heads.open_is, Heads.opened_span, Heads.span_bare}
use Rattle.field.proofs.{Views.seen, Views.seen_there}

abbrev extent : ℕ → ℕ → Extent
extent from n = record { from = from; size = n }

abbrev parts_by : Bool → Elements → Option Elements
parts_by true es = some es
parts_by false es = none

-- none stands there, and one does
none_listed : (s : List ℕ) (at : ℕ) → parts_of (shallow_at s at) ≡ none → Lists s at None
none_listed s at q = record {
  is = q;
  span = λ e i. absurd (let z : ◌≡◌ {A = ℕ} 0 1 = cc in omega arith);
  within = λ e i. absurd (let z : ◌≡◌ {A = ℕ} 0 1 = cc in omega arith);
}

one_listed : (s : List ℕ) (at from n : ℕ) → parts_of (shallow_at s at) ≡ some (leaves_from s n from) → span_of s at ≡ Holds from n false → from ≤ length s → Lists s at (Some (extent from n))
one_listed s at from n q span w = record {
  is = q;
  span = λ e i. let z : extent from n ≡ e = cc in subst (λ (x : Extent). span_of s at ≡ Holds x.from x.size false) z span;
  within = λ e i. let z : extent from n ≡ e = cc in subst (λ (x : Extent). x.from ≤ length s) z w;
}

pub no_parts : (c : Class) (b : ℕ) (d : List ℕ) → parts_of (leaf_of c b d) ≡ none
no_parts Class.small b d = refl
no_parts Class.map b d = refl
no_parts Class.array b d = refl
no_parts Class.text b d = refl
no_parts Class.nil b d = refl
no_parts Class.never b d = refl
no_parts Class.bool b d = refl
no_parts Class.bin b d = refl
no_parts Class.ext b d = refl
no_parts Class.float32 b d = refl
no_parts Class.float64 b d = refl
no_parts Class.unsigned b d = refl
no_parts Class.signed b d = refl

module _ (s : List ℕ) (at : ℕ) (o : Opened) (e : o ≡ opened_at s at) (w : o.from ≤ length s) (t : Bool) (q : t ≡ is_array o.shape) where
  by_array : parts_of (shallow_at s at) ≡ parts_by t (leaves_from s o.size o.from)
  by_array =
      seen_there s at parts_of none refl (leaf_all s at parts_of none refl (λ d. no_parts (class_of (get_or s at 0)) (get_or s at 0) d))
      ∙ ap (λ (x : Opened). seen parts_of none s x.shape x.from x.size) (sym e)
      ∙ go o.shape
      ∙ ap (λ (b : Bool). parts_by b (leaves_from s o.size o.from)) (sym q)
    where
      go : (h : Shape) → seen parts_of none s h o.from o.size ≡ parts_by (is_array h) (leaves_from s o.size o.from)
      go Never = refl
      go Plain = refl
      go Text = refl
      go Array = refl
      go Map = refl

  array_span : t ≡ true → span_of s at ≡ Holds o.from o.size false
  array_span u = opened_span s at o e ∙ go o.shape (sym q ∙ u)
    where
      go : (h : Shape) → is_array h ≡ true → content_of h (length s) o.from o.size ≡ Holds o.from o.size false
      go Never i = true_false (sym i)
      go Plain i = true_false (sym i)
      go Text i = true_false (sym i)
      go Array i = refl
      go Map i = true_false (sym i)

  pub array_there : t ≡ true → Lists s at (Some (record { from = o.from; size = o.size }))
  array_there u = one_listed s at o.from o.size (by_array ∙ ap (λ (b : Bool). parts_by b (leaves_from s o.size o.from)) u) (array_span u) w

  pub array_not : t ≡ false → Lists s at None
  array_not u = none_listed s at (by_array ∙ ap (λ (b : Bool). parts_by b (leaves_from s o.size o.from)) u)

-- a short one, by its lead byte alone
module _ (s : List ℕ) (at : ℕ) where
  pub array_past : length s ≤ at → Lists s at None
  array_past h = none_listed s at (ap parts_of (shallow_past s at h))

  pub array_fix : at < length s → 0x90 ≤ get_or s at 0 → get_or s at 0 < 0xA0 → Lists s at (Some (record { from = at + 1; size = get_or s at 0 - 0x90 }))
  array_fix there g h =
      let span = span_bare s at Array (get_or s at 0 - 0x90) there (says_fixarray (get_or s at 0) g h).is in
      one_listed s at (at + 1) (get_or s at 0 - 0x90) (ap parts_of (by_shallow s at (Holds (at + 1) (get_or s at 0 - 0x90) false) there span)) span (omega arith)

-- a longer one, by the two bytes of its length
pub array_two : (s : List ℕ) (at n : ℕ) (t : Bool) → at < length s → get_or s at 0 ≡ 0xDC → t ≡ is_there (length s) (at + 1) 2 → t ≡ true → n ≡ if_there s (at + 1) 2 (big_at s (at + 1) 2) → Lists s at (Some (record { from = at + 3; size = n }))
array_two s at n t there b e u q =
    let few : at + 1 + 2 ≤ length s = inside (length s) (at + 1) 2 t e u in
    let a : at + 1 + 2 ≡ at + 3 = omega arith in
    let o = open_is s at (row Array 2 0) there (says_array (get_or s at 0) 2 (rw b) (omega arith) (omega arith)) n (omega arith) q in
    rw (a, zero-add n) at (array_there s at (record { shape = Array; from = at + 1 + 2; size = 0 + n }) o few true refl refl)

pub ruleset lists = (array_there, array_not, array_past, array_fix, array_two, length_fits, arith)

-- as many values as parts
pub joined_length : {A : Type 0} (k : ℕ) (l : List A) (o : Option A) (m : Option (List A)) → ((xs : List A) → m ≡ some xs → length xs ≡ k) → on_some o (λ x. on_some m (λ xs. some (x ∷ xs))) ≡ some l → length l ≡ suc k
joined_length k l none m f e = absurd (let z : ◌≡◌ {A = ℕ} 0 1 = cc in omega arith)
joined_length k l (some x) none f e = absurd (let z : ◌≡◌ {A = ℕ} 0 1 = cc in omega arith)
joined_length k l (some x) (some xs) f e = let z : x ∷ xs ≡ l = cc in rw (← z) (ap suc (f xs refl))

pub length_naturals : (hi : ℕ) (s : List ℕ) (n at : ℕ) (ns : List ℕ) → naturals_from hi s n at ≡ some ns → length ns ≡ n
unfolding naturals_from naturals_in leaves_from
length_naturals hi s zero at ns e = let z : [] ≡ ns = cc in rw (← z)
length_naturals hi s (suc n) at ns e =
    let next = end_of at (span_of s at) in
    joined_length n ns (natural_in hi (number_of (leaf_at s at))) (naturals_from hi s n next) (λ ms. length_naturals hi s n next ms) e

-- the array at a place
module _ (s : List ℕ) (at : ℕ) (a : Answer Extent) (y : Lists s at a) where
  pub by_parts : (o : Answer Extent) → a ≡ o → (f : Elements → Option Value) → on_some (parts_in s o) f ≡ on_some (parts_of (shallow_at s at)) f
  by_parts o e f = ap (λ (p : Option Elements). on_some p f) (ap (parts_in s) (sym e) ∙ sym y.is)
