-- The element that stands at a place of the bytes, as far as a kind looks into it: an array's parts as leaves, a map by its presence.
use Rattle.std.specs.Prelude.{ℕ, zero, suc}
use mathlib.Core.{Bool.Bool, Bool.true, Bool.false, List.List, Option.Option, Option.some, Option.none}
use lib.{Dec.ltb, ListN.length}
use Rattle.octets.specs.{Choice.either, Bytes.put_at}
use Rattle.element.specs.declared.Span.{Span, TheVariants.Cut, TheVariants.Ends, TheVariants.Holds}
use Rattle.element.specs.{Form.span_of, Meaning.Element, Meaning.Elements, Meaning.Element.null, Meaning.Element.list, Meaning.Element.table}
use Rattle.element.specs.{Meaning.Elements.no_more, Meaning.Elements.more, Meaning.Fields.no_field, Code.At.leaf_at}
use Rattle.field.specs.{Kind.Kind, Kind.Value, Judge.judge, Cell.Cell, Cell.judged}

-- the place behind a leaf
abbrev pub end_of : ℕ → Span → ℕ
end_of at Cut = at
end_of at (Ends p) = p
end_of at (Holds p n keyed) = at

-- n leaves behind each other
unfoldable pub leaves_from : List ℕ → ℕ → ℕ → Elements
leaves_from s zero at = no_more
leaves_from s (suc n) at = more (leaf_at s at) (leaves_from s n (end_of at (span_of s at)))

abbrev pub shallow_by : List ℕ → ℕ → Span → Element
shallow_by s at Cut = null
shallow_by s at (Ends p) = leaf_at s at
shallow_by s at (Holds p n true) = table no_field
shallow_by s at (Holds p n false) = list (leaves_from s n p)

unfoldable pub shallow_at : List ℕ → ℕ → Element
shallow_at s at = either (ltb at (length s)) (λ _. shallow_by s at (span_of s at)) (λ _. null)

-- the place behind a leaf, or behind an array of leaves
unfoldable pub leaves_end : List ℕ → ℕ → ℕ → ℕ
leaves_end s zero at = at
leaves_end s (suc n) at = leaves_end s n (end_of at (span_of s at))

abbrev pub nested_end : List ℕ → ℕ → Span → ℕ
nested_end s at Cut = at
nested_end s at (Ends p) = p
nested_end s at (Holds p n true) = at
nested_end s at (Holds p n false) = leaves_end s n p

-- n elements behind each other, each as far as that
unfoldable pub nested_from : List ℕ → ℕ → ℕ → Elements
nested_from s zero at = no_more
nested_from s (suc n) at = more (shallow_at s at) (nested_from s n (nested_end s at (span_of s at)))

abbrev pub nested_by : List ℕ → ℕ → Span → Element
nested_by s at Cut = null
nested_by s at (Ends p) = leaf_at s at
nested_by s at (Holds p n true) = table no_field
nested_by s at (Holds p n false) = list (nested_from s n p)

unfoldable pub nested_at : List ℕ → ℕ → Element
nested_at s at = either (ltb at (length s)) (λ _. nested_by s at (span_of s at)) (λ _. null)

-- an array of arrays is looked into one level further
abbrev pub is_nested : Kind → Bool
is_nested (Kind.wholes lo hi) = false
is_nested Kind.reals = false
is_nested Kind.singles = false
is_nested Kind.flags = false
is_nested Kind.positions = false
is_nested (Kind.arrays lo hi) = false
is_nested (Kind.counters many) = false
is_nested (Kind.pieces many most all) = true
is_nested (Kind.texts lo hi) = false
is_nested Kind.versions = false
is_nested Kind.words = false
is_nested Kind.maps = false

abbrev pub seen_at : Kind → List ℕ → ℕ → Element
seen_at k s at = either (is_nested k) (λ _. nested_at s at) (λ _. shallow_at s at)

-- where a key's value stands: 0 nowhere, 1 in several places, else the place
unfoldable pub cell_at : Kind → List ℕ → ℕ → Cell
cell_at k s zero = Cell.missing
cell_at k s (suc zero) = Cell.double
cell_at k s (suc (suc p)) = judged (judge k (seen_at k s (suc (suc p))))

-- a room with the bytes of a value at its start; as it is where there are none
abbrev pub string_filled : Option Value → List ℕ → List ℕ
string_filled none room = room
string_filled (some Value.nothing) room = room
string_filled (some (Value.number z)) room = room
string_filled (some (Value.figure x)) room = room
string_filled (some (Value.mark b)) room = room
string_filled (some (Value.position x y z)) room = room
string_filled (some (Value.string d)) room = put_at room 0 d
string_filled (some (Value.counts ns)) room = room
string_filled (some (Value.strings ds)) room = room
string_filled (some (Value.release a b c)) room = room
