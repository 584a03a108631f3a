-- Document 01, "Elements": what is written for a record, keys in listed order, optional fields only where present, D fields never.
use Rattle.std.specs.Prelude.{ℕ, List}
use Rattle.element.specs.Tree.{Tree, bytes_of}
use Rattle.forms.specs.Shortest.{map_tree}
use Rattle.message.specs.Fields.{fields_of}
use Rattle.saying.specs.Written.{pairs_from, frame_of}
use Rattle.record.specs.declared.Message.{Message}
use Rattle.record.specs.{Record.command_in, Says.says_of}

abbrev pub tree_for : Message → List ℕ → Tree
tree_for m d = map_tree (pairs_from (fields_of (command_in m.body)) (says_of m d))

unfoldable pub payload_for : Message → List ℕ → List ℕ
payload_for m d = bytes_of (tree_for m d)

abbrev pub frame_for : Message → List ℕ → List ℕ
frame_for m d = frame_of (payload_for m d)
