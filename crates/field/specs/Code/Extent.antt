-- For the private readers: where the bytes or parts of an element stand. No statement of a public function rests on this page.
use mathlib.Core.{Path.◌≡◌, Bool.Bool, Bool.true, Bool.false, List.List}
use mathlib.Core.Option as maybe
use Rattle.std.specs.Prelude.{ℕ, ◌+◌, ◌-◌, ◌≤◌, leb, ltb, length, get_or, take, drop, Option, Some, None}
use Rattle.std.specs.Option.{ForSome}
use Rattle.octets.specs.Choice.{either}
use Rattle.element.specs.declared.Shape.{Shape, TheVariants.Never, TheVariants.Plain, TheVariants.Text, TheVariants.Array, TheVariants.Map}
use Rattle.element.specs.declared.Head.{Head}
use Rattle.element.specs.declared.Span.TheVariants.{Holds}
use Rattle.element.specs.{Lead.head_of, Form.behind_head, Form.span_of, Meaning.Elements}
use Rattle.field.specs.declared.{Opened.Opened, Extent.Extent}
use Rattle.field.specs.{Judge.text_of, Judge.parts_of, Code.At.leaves_from, Code.At.shallow_at}

abbrev pub shut : Opened
shut = record { shape = Never; from = 0; size = 0 }

-- a head with the length that follows it; shut where they are not there
abbrev pub opened_by : List ℕ → ℕ → Head → Opened
opened_by s at h = behind_head s at h shut (λ x from n. record { shape = x; from = from; size = n })

unfoldable pub opened_at : List ℕ → ℕ → Opened
opened_at s at = either (ltb at (length s)) (λ _. opened_by s at (head_of (get_or s at 0))) (λ _. shut)

-- bytes follow, and no parts
abbrev pub is_body : Shape → Bool
is_body Never = false
is_body Plain = true
is_body Text = true
is_body Array = false
is_body Map = false

abbrev pub is_array : Shape → Bool
is_array Never = false
is_array Plain = false
is_array Text = false
is_array Array = true
is_array Map = false

-- n bytes from a place on, where they are within len
unfoldable pub part_from : ℕ → ℕ → ℕ → Option Extent
part_from len from n = either (leb n (len - from)) (λ _. Some (record { from = from; size = n })) (λ _. None)

-- the bytes of a part that is there
abbrev pub part_bytes : List ℕ → Option Extent → maybe.Option (List ℕ)
part_bytes s None = maybe.none
part_bytes s (Some e) = maybe.some (take e.size (drop e.from s))

-- r is where the bytes of the text at a place stand, if one is there
pub record Bears (s : List ℕ) (at : ℕ) (r : Option Extent) : Type 0 where
  pub is : text_of (shallow_at s at) ≡ part_bytes s r
  pub within : ForSome r (λ e. e.from + e.size ≤ length s)

abbrev pub parts_in : List ℕ → Option Extent → maybe.Option Elements
parts_in s None = maybe.none
parts_in s (Some e) = maybe.some (leaves_from s e.size e.from)

-- r is where the parts of the array at a place stand, if one is there
pub record Lists (s : List ℕ) (at : ℕ) (r : Option Extent) : Type 0 where
  pub is : parts_of (shallow_at s at) ≡ parts_in s r
  pub span : ForSome r (λ e. span_of s at ≡ Holds e.from e.size false)
  pub within : ForSome r (λ e. e.from ≤ length s)
