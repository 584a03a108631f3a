-- Document 01, "Elements": what is written for the fields that are said, keys in listed order; and the frame of a payload.
use Rattle.std.specs.Prelude.{ℕ, List, [], ◌∷◌, ◌++◌, length}
use mathlib.Core.{Bool.Bool, Bool.true, Bool.false, Option.Option, Option.some, Option.none}
use Rattle.octets.specs.{Choice.either, Bytes.little_bytes}
use Rattle.frame.specs.Frame.{identifier}
use Rattle.element.specs.{Tree.Tree, Tree.Pairs, Tree.Tree.leaf, Tree.Pairs.end, Tree.Pairs.pair}
use Rattle.forms.specs.Shortest.{whole_tree, real_tree, mark_tree, text_tree, numbers_tree, pieces_tree, position_tree, version_text}
use Rattle.field.specs.Kind.{Kind, Value}
use Rattle.message.specs.Fields.{Field}

-- bytes are an array of numbers in some fields and a text in the others
abbrev pub as_array : Kind → Bool
as_array (Kind.wholes lo hi) = false
as_array Kind.reals = false
as_array Kind.singles = false
as_array Kind.flags = false
as_array Kind.positions = false
as_array (Kind.arrays lo hi) = true
as_array (Kind.counters many) = false
as_array (Kind.pieces many most all) = false
as_array (Kind.texts lo hi) = false
as_array Kind.versions = false
as_array Kind.words = false
as_array Kind.maps = false

-- a value of a kind
unfoldable pub tree_of : Kind → Value → Tree
tree_of k Value.nothing = leaf 0xC0 [] []
tree_of k (Value.number z) = whole_tree z
tree_of k (Value.figure x) = real_tree x
tree_of k (Value.mark b) = mark_tree b
tree_of k (Value.position x y z) = position_tree x y z
tree_of k (Value.string d) = either (as_array k) (λ _. numbers_tree d) (λ _. text_tree d)
tree_of k (Value.counts ns) = numbers_tree ns
tree_of k (Value.strings ds) = pieces_tree ds
tree_of k (Value.release a b c) = text_tree (version_text a b c)

abbrev pub pair_by : Field → Option Value → Pairs → Pairs
pair_by f none ps = ps
pair_by f (some v) ps = pair (text_tree f.key) (tree_of f.kind v) ps

-- the pairs of the fields that are said
unfoldable pub pairs_from : List Field → (List ℕ → Option Value) → Pairs
pairs_from [] says = end
pairs_from (f ∷ l) says = pair_by f (says f.key) (pairs_from l says)

-- identifier, size, payload
unfoldable pub frame_of : List ℕ → List ℕ
frame_of d = identifier ++ (little_bytes 4 (length d) ++ d)
