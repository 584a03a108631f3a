-- What the head at a place says of the element there: an array's parts, a map's presence. No leaf is an array or a map. Assumes nothing.
use mathlib.Core.Path.{◌≡◌, refl, sym, ap, ◌∙◌}
use mathlib.Core.{Bool.Bool, Bool.true, Bool.false, List.List}
use Prim.Native.Nat.{ℕ, ◌+◌, ◌-◌}
use native.Mathlib.Omega.{arith}
use lib.{Dec.leb, ListN.length, ListN.get_or}
use Rattle.octets.specs.Choice.{either}
use Rattle.element.specs.declared.Shape.{Shape, TheVariants.Never, TheVariants.Plain, TheVariants.Text, TheVariants.Array, TheVariants.Map}
use Rattle.element.specs.declared.Span.TheVariants.{Cut, Ends}
use Rattle.element.specs.{Lead.Class, Lead.class_of, Lead.head_of, Form.is_map, Form.body_of, Form.content_of, Meaning.Element, Meaning.leaf_of}
use Rattle.element.specs.{Meaning.Element.null, Meaning.Element.list, Meaning.Element.table, Meaning.Fields.no_field, Code.At.leaf_at}
use Rattle.std.specs.Prelude.{Some, None}
use Rattle.field.specs.declared.Opened.{Opened}
use Rattle.field.specs.{Kind.Kind, Kind.Value, Judge.when, Judge.is_table, Judge.judge, Code.At.leaves_from, Code.At.shallow_by, Code.At.shallow_at}
use Rattle.field.specs.{Code.Extent.opened_at}
use Rattle.field.specs.{Code.Told.unkept, Code.Read.tell, Code.Read.read_at}
use Rattle.field.proofs.{Shallow.by_shallow, Shallow.shallow_cut, Shallow.leaf_all, Heads.by_opened}

-- what a view sees that sees all leaves as x
abbrev pub seen : {A : Type 0} → (Element → A) → A → List ℕ → Shape → ℕ → ℕ → A
seen f x s Never from n = x
seen f x s Plain from n = x
seen f x s Text from n = x
seen f x s Array from n = f (list (leaves_from s n from))
seen f x s Map from n = f (table no_field)

module _ (s : List ℕ) (at : ℕ) {A : Type 0} (f : Element → A) (x : A) (nulls : f null ≡ x) (leaf : f (leaf_at s at) ≡ x) where
  of_body : (len from n : ℕ) → f (shallow_by s at (body_of len from n)) ≡ x
  unfolding body_of
  of_body len from n = go (leb n (len - from))
    where
      go : (t : Bool) → f (shallow_by s at (either t (λ _. Ends (from + n)) (λ _. Cut))) ≡ x
      go true = leaf
      go false = nulls

  of_shape : (h : Shape) (from n : ℕ) → f (shallow_by s at (content_of h (length s) from n)) ≡ seen f x s h from n
  of_shape Never from n = nulls
  of_shape Plain from n = of_body (length s) from n
  of_shape Text from n = of_body (length s) from n
  of_shape Array from n = refl
  of_shape Map from n = refl

  pub seen_there : f (shallow_at s at) ≡ seen f x s (opened_at s at).shape (opened_at s at).from (opened_at s at).size
  seen_there =
      by_opened s at (λ o. f (shallow_at s at) ≡ seen f x s o.shape o.from o.size)
      (λ cut. ap f (shallow_cut s at cut) ∙ nulls)
      (λ h span. ap f (by_shallow s at _ (omega arith) span) ∙ of_shape (head_of (get_or s at 0)).shape _ _)

no_table : (c : Class) (b : ℕ) (d : List ℕ) → is_table (leaf_of c b d) ≡ false
no_table Class.small b d = refl
no_table Class.map b d = refl
no_table Class.array b d = refl
no_table Class.text b d = refl
no_table Class.nil b d = refl
no_table Class.never b d = refl
no_table Class.bool b d = refl
no_table Class.bin b d = refl
no_table Class.ext b d = refl
no_table Class.float32 b d = refl
no_table Class.float64 b d = refl
no_table Class.unsigned b d = refl
no_table Class.signed b d = refl

table_there : (s : List ℕ) (at : ℕ) → is_table (shallow_at s at) ≡ is_map (opened_at s at).shape
table_there s at =
    seen_there s at is_table false refl (leaf_all s at is_table false refl (λ d. no_table (class_of (get_or s at 0)) (get_or s at 0) d))
    ∙ go (opened_at s at).shape
  where
    go : (h : Shape) → seen is_table false s h (opened_at s at).from (opened_at s at).size ≡ is_map h
    go Never = refl
    go Plain = refl
    go Text = refl
    go Array = refl
    go Map = refl

module _ (s : List ℕ) (at : ℕ) (o : Opened) (e : o ≡ opened_at s at) (t : Bool) (q : t ≡ is_map o.shape) where
  by_map : (b : Bool) → t ≡ b → tell unkept (when b Value.nothing) ≡ read_at unkept Kind.maps s at
  unfolding read_at judge
  by_map b u = ap (λ (y : Bool). tell unkept (when y Value.nothing)) (sym u ∙ q ∙ ap (λ (y : Opened). is_map y.shape) e ∙ sym (table_there s at))

  pub map_good : t ≡ true → Some tt ≡ read_at unkept Kind.maps s at
  unfolding tell
  map_good u = by_map true u

  pub map_bad : t ≡ false → None ≡ read_at unkept Kind.maps s at
  unfolding tell
  map_bad u = by_map false u

pub ruleset maps = (map_good, map_bad)
