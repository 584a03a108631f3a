-- Texts: a lead byte of the class text with its body there, short or with a length of its own. No other class is a text.
-- Each law in the shape of a need of the code. Assumes nothing.
use mathlib.Core.Path.{◌≡◌, refl, sym, ap, subst, ◌∙◌}
use mathlib.Core.Bool.{Bool, true, false, ◌&&◌, and-false}
use mathlib.Core.{List.List, Option.Option, Option.some, Option.none}
use Prim.Native.Nat.{ℕ, ◌+◌, ◌-◌, ◌≤◌, ◌<◌}
use native.Mathlib.Nat.{add-zero}
use native.Mathlib.Omega.{arith}
use lib.Dec.{leb}
use lib.ListN.{length, get_or, take, drop}
use borrow.Author.Tests.{le-leb, lt-leb, leb-true}
use Rattle.octets.specs.Choice.{either}
use Rattle.octets.proofs.{Ranges.true_false, Places.length_part}
use Rattle.element.specs.declared.Shape.{Shape, TheVariants.Never, TheVariants.Plain, TheVariants.Text, TheVariants.Array, TheVariants.Map}
use Rattle.element.specs.declared.Head.{Head}
use Rattle.element.specs.declared.Span.TheVariants.{Ends}
use Rattle.element.specs.Lead.{Class, class_of, shape_of, head_of}
use Rattle.element.specs.Form.{is_text, body_of, content_of, span_of}
use Rattle.element.specs.{Meaning.leaf_of, Code.At.body_from, Code.At.leaf_at}
use Rattle.element.proofs.At.{by_span}
use Rattle.walk.proofs.Leads.{text_low, says_fixtext}
use Rattle.std.specs.Prelude.{Option as Answer, Some, None}
use Rattle.field.specs.declared.{Opened.Opened, Extent.Extent}
use Rattle.field.specs.{Kind.Kind, Kind.Value, Code.At.shallow_at}
use Rattle.field.specs.Judge.{on_some, text_of, string_sized, judge}
use Rattle.field.specs.{Cell.word_of, Code.Told.unkept, Code.Read.tell, Code.Read.read_at, Code.Read.sized_of}
use Rattle.field.specs.Code.Extent.{opened_at, part_from, part_bytes, Bears}
use Rattle.field.proofs.Shallow.{leaf_view, leaf_all, shallow_past, shallow_cut}
use Rattle.field.proofs.Heads.{span_bare, by_opened}

abbrev bytes_by : Bool → List ℕ → Option (List ℕ)
bytes_by true d = some d
bytes_by false d = none

of_class : (c : Class) (b : ℕ) (d : List ℕ) → text_of (leaf_of c b d) ≡ bytes_by (is_text (shape_of c)) d
of_class Class.small b d = refl
of_class Class.map b d = refl
of_class Class.array b d = refl
of_class Class.text b d = refl
of_class Class.nil b d = refl
of_class Class.never b d = refl
of_class Class.bool b d = refl
of_class Class.bin b d = refl
of_class Class.ext b d = refl
of_class Class.float32 b d = refl
of_class Class.float64 b d = refl
of_class Class.unsigned b d = refl
of_class Class.signed b d = refl

-- a part that is not there
bears_nowhere : (s : List ℕ) (at : ℕ) → text_of (shallow_at s at) ≡ none → Bears s at None
bears_nowhere s at q = record { is = q; within = λ x e. absurd (let z : ◌≡◌ {A = ℕ} 0 1 = cc in omega arith) }

module _ (s : List ℕ) (at : ℕ) where
  text_there : text_of (shallow_at s at) ≡ text_of (leaf_at s at)
  text_there = leaf_view s at text_of (λ es. refl) refl

  -- another class
  text_none : false ≡ is_text (head_of (get_or s at 0)).shape → text_of (shallow_at s at) ≡ none
  unfolding head_of
  text_none e =
      text_there
      ∙ leaf_all s at text_of none refl (λ d. of_class (class_of (get_or s at 0)) (get_or s at 0) d ∙ ap (λ (t : Bool). bytes_by t d) (sym e))

  -- a text of n bytes, where its head ends and no byte of its body is missing
  module _ (from n : ℕ) (h : is_text (head_of (get_or s at 0)).shape ≡ true) (f : from ≡ body_from s at) (within : from + n ≤ length s) where
    text_some : span_of s at ≡ Ends (from + n) → text_of (shallow_at s at) ≡ some (take n (drop from s))
    unfolding head_of
    text_some span =
        let there : at < length s = omega arith in
        let k : from + n - from ≡ n = omega arith in
        text_there
        ∙ ap text_of (by_span s at (Ends (from + n)) there span)
        ∙ of_class (class_of (get_or s at 0)) (get_or s at 0) (take (from + n - body_from s at) (drop (body_from s at) s))
        ∙ ap (λ (t : Bool). bytes_by t (take (from + n - body_from s at) (drop (body_from s at) s))) h
        ∙ ap (λ (x : ℕ). some (take (from + n - x) (drop x s))) (sym f)
        ∙ ap (λ (x : ℕ). some (take x (drop from s))) k

  bears_part : (r : Answer Extent) (from n : ℕ) → from ≤ length s → is_text (head_of (get_or s at 0)).shape ≡ true → from ≡ body_from s at → span_of s at ≡ body_of (length s) from n → r ≡ part_from (length s) from n → Bears s at r
  unfolding part_from body_of
  bears_part r from n w h f span e = rw e (go (leb n (length s - from)) refl)
    where
      go : (t : Bool) → leb n (length s - from) ≡ t → Bears s at (either t (λ _. Some (record { from = from; size = n })) (λ _. None))
      go true u =
          let g : from + n ≤ length s = omega (arith, leb-true n (length s - from) u) in
          record {
            is = text_some from n h f g (span ∙ simp u);
            within = λ x q. let z : record { from = from; size = n } ≡ x = cc in subst (λ (y : Extent). y.from + y.size ≤ length s) z g;
          }
      go false u = bears_nowhere s at (ap text_of (shallow_cut s at (span ∙ simp u)))

  pub bears_past : length s ≤ at → Bears s at None
  bears_past h = bears_nowhere s at (ap text_of (shallow_past s at h))

  pub bears_low : get_or s at 0 < 0xA0 → Bears s at None
  bears_low h = bears_nowhere s at (text_none (text_low (get_or s at 0) h))

  module _ (r : Answer Extent) where
    pub bears_fix : at < length s → 0xA0 ≤ get_or s at 0 → get_or s at 0 < 0xC0 → r ≡ part_from (length s) (at + 1) (get_or s at 0 - 0xA0) → Bears s at r
    bears_fix there g h e =
        let y = (says_fixtext (get_or s at 0) g h).is in
        bears_part r (at + 1) (get_or s at 0 - 0xA0) (omega arith) (ap (λ (x : Head). is_text x.shape) (sym y))
        (sym (ap (λ (x : Head). at + 1 + x.wide) (sym y) ∙ add-zero (at + 1)))
        (span_bare s at Text (get_or s at 0 - 0xA0) there y) e

    module _ (o : Opened) (e : o ≡ opened_at s at) (t : Bool) (q : t ≡ is_text o.shape) where
      pub bears_open : t ≡ true → r ≡ part_from (length s) o.from o.size → Bears s at r
      bears_open u p =
          by_opened s at (λ x. t ≡ is_text x.shape → r ≡ part_from (length s) x.from x.size → Bears s at r)
          (λ cut f g. true_false (sym u ∙ f))
          (λ w span f g. bears_part r _ _ w (sym f ∙ u) refl (span ∙ body (head_of (get_or s at 0)).shape _ _ _ (sym f ∙ u)) g)
          (q ∙ ap (λ (x : Opened). is_text x.shape) e) (p ∙ ap (λ (x : Opened). part_from (length s) x.from x.size) e)
        where
          body : (h : Shape) (len from n : ℕ) → is_text h ≡ true → content_of h len from n ≡ body_of len from n
          body Never len from n z = true_false (sym z)
          body Plain len from n z = true_false (sym z)
          body Text len from n z = refl
          body Array len from n z = true_false (sym z)
          body Map len from n z = true_false (sym z)

  pub bears_other : (o : Opened) → o ≡ opened_at s at → (t : Bool) → t ≡ is_text o.shape → t ≡ false → Bears s at None
  bears_other o e t q u =
      bears_nowhere s at
      (by_opened s at (λ x. t ≡ is_text x.shape → text_of (shallow_at s at) ≡ none)
      (λ cut f. ap text_of (shallow_cut s at cut))
      (λ w span f. text_none (sym u ∙ f))
      (q ∙ ap (λ (x : Opened). is_text x.shape) e))

pub part_there : (len from n : ℕ) → n ≤ len - from → Some (record { from = from; size = n }) ≡ part_from len from n
unfolding part_from
part_there len from n h = simp (le-leb n (len - from) h)

pub part_not : (len from n : ℕ) → len - from < n → None ≡ part_from len from n
unfolding part_from
part_not len from n h = simp (lt-leb n (len - from) h)

pub ruleset parts = (part_there, part_not, bears_past, bears_low, bears_fix, bears_open, bears_other, arith)

-- how many bytes
module _ (lo hi n : ℕ) where
  pub sized_few : n < lo → None ≡ sized_of lo hi n
  unfolding sized_of
  sized_few h = simp (lt-leb lo n h)

  pub sized_many : hi < n → None ≡ sized_of lo hi n
  unfolding sized_of
  sized_many h = simp (lt-leb n hi h, and-false)

  pub sized_in : lo ≤ n → n ≤ hi → Some n ≡ sized_of lo hi n
  unfolding sized_of
  sized_in g h = simp (le-leb lo n g, le-leb n hi h)

pub ruleset sizes = (sized_few, sized_many, sized_in, arith)

-- so many bytes of a list that has them
pub sized_told : (lo hi : ℕ) (d : List ℕ) → sized_of lo hi (length d) ≡ tell word_of (string_sized lo hi d)
unfolding sized_of tell
sized_told lo hi d = go (leb lo (length d) && leb (length d) hi)
  where
    go : (t : Bool) → either t (λ _. Some (length d)) (λ _. None) ≡ tell word_of (either t (λ _. some (Value.string d)) (λ _. none))
    go true = refl
    go false = refl

-- what a kind makes of the text at a place
module _ (s : List ℕ) (at : ℕ) (p : Answer Extent) (y : Bears s at p) where
  pub by_text : (o : Answer Extent) → p ≡ o → (f : List ℕ → Option Value) → on_some (part_bytes s o) f ≡ on_some (text_of (shallow_at s at)) f
  by_text o e f = ap (λ (b : Option (List ℕ)). on_some b f) (ap (part_bytes s) (sym e) ∙ sym y.is)

  pub text_within : (t : Extent) → p ≡ Some t → t.from + t.size ≤ length s
  text_within t e = y.within t e

  pub word_bad : p ≡ None → None ≡ read_at unkept Kind.words s at
  unfolding read_at judge tell
  word_bad e = ap (tell unkept) (by_text None e (λ d. some Value.nothing))

  pub string_bad : p ≡ None → (lo hi : ℕ) → None ≡ read_at word_of (Kind.texts lo hi) s at
  unfolding read_at judge tell
  string_bad e lo hi = ap (tell word_of) (by_text None e (string_sized lo hi))

  module _ (t : Extent) (e : p ≡ Some t) where
    pub word_good : Some tt ≡ read_at unkept Kind.words s at
    unfolding read_at judge tell
    word_good = ap (tell unkept) (by_text (Some t) e (λ d. some Value.nothing))

    pub string_good : (r : Answer ℕ) (lo hi : ℕ) → r ≡ sized_of lo hi t.size → r ≡ read_at word_of (Kind.texts lo hi) s at
    unfolding read_at judge
    string_good r lo hi q =
        q ∙ ap (sized_of lo hi) (sym (length_part s t.from t.size (text_within t e)))
        ∙ sized_told lo hi (take t.size (drop t.from s)) ∙ ap (tell word_of) (by_text (Some t) e (string_sized lo hi))

pub ruleset texts = (word_good, word_bad, string_good, string_bad)
