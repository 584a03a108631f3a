-- The leaf that stands at a place of a payload: what its lead byte and body mean.
use Rattle.std.specs.Prelude.{ℕ, ◌+◌, ◌-◌, List, ltb, length, get_or, take, drop}
use Rattle.octets.specs.Choice.{either}
use Rattle.element.specs.declared.Span.{Span, TheVariants.Cut, TheVariants.Ends, TheVariants.Holds}
use Rattle.element.specs.{Lead.class_of, Lead.head_of, Form.span_of, Meaning.Element, Meaning.leaf_of, Meaning.Element.null}

-- where the body of the element at `at` begins
abbrev pub body_from : List ℕ → ℕ → ℕ
body_from s at = at + 1 + (head_of (get_or s at 0)).wide

abbrev pub leaf_to : List ℕ → ℕ → Span → Element
leaf_to s at Cut = null
leaf_to s at (Ends p) = leaf_of (class_of (get_or s at 0)) (get_or s at 0) (take (p - body_from s at) (drop (body_from s at) s))
leaf_to s at (Holds p n keyed) = null

-- null where there is no byte, where the element is cut, and where an array or a map stands
unfoldable pub leaf_at : List ℕ → ℕ → Element
leaf_at s at = either (ltb at (length s)) (λ _. leaf_to s at (span_of s at)) (λ _. null)
