-- What the functions of the walk take and answer, in the words of the definitions.
use Rattle.std.specs.Prelude.{ℕ}
use mathlib.Core.{Bool.Bool, Bool.true, Bool.false, List.List}
use Rattle.element.specs.Form.{Role, Step, element_of, item_by}

-- inside a payload an element is a key, or a value or part
abbrev pub role_of : Bool → Role
role_of true = Role.key
role_of false = Role.value

-- a key and its value
unfoldable pub pair_of : List ℕ → ℕ → ℕ → ℕ → Step
pair_of s left at count = item_by (element_of s left) true at count
