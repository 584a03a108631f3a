-- Items behind each other, as the walk goes over them.
use Rattle.std.specs.Prelude.{ℕ}
use mathlib.Core.{Bool.Bool, List.List}
use Rattle.element.specs.Form.{Step, element_of, item_by, times}

-- n items behind each other: the parts of an array, or the pairs of a map
unfoldable pub items_of : List ℕ → ℕ → Bool → ℕ → ℕ → ℕ → Step
items_of s d keyed n at count = times (item_by (element_of s d) keyed) n at count
