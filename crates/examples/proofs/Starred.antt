-- Every starred example holds of the definitions: what is answered to a payload is meant, and what is answered is computed. Assumes nothing.
use mathlib.Core.{Path.◌≡◌, Path.refl, Path.subst, List.List}
use Prim.Native.Nat.{ℕ, ◌≤◌}
use lib.{Ieee.of_bits, Ieee.of_int, Ieee.to_bits, Ieee.fits as holds, ListN.length}
use borrow.Author.Tests.{le-ltb}
use Rattle.refusal.specs.declared.Refusal.TheVariants as refusal
use Rattle.octets.specs.{Choice.either, Size.is_size, Number.big_at, Bytes.big_bytes, Bytes.little_bytes, Bytes.put_at}
use Rattle.frame.specs.Frame.{identifier}
use Rattle.element.specs.{Lead.lead_bytes, Lead.row_in, Lead.head_of, Code.At.leaf_at, Tree.bytes_of, Tree.pair_count}
use Rattle.element.specs.Form.{Role, fault_of, body_of, span_of, times, element_of}
use Rattle.forms.specs.Shortest.{whole_tree, text_head, many_head, text_tree, map_tree}
use Rattle.names.specs.Names.{commands, name_at, place_in, command_of}
use Rattle.names.specs.Code.Slots.{keys, slot_of}
use Rattle.field.specs.{Judge.judge, Code.At.shallow_at, Code.At.cell_at}
use Rattle.message.specs.{Fields.lists, Fields.list_in, Reading.gravest, Reading.look_in, Reading.place_among, Code.Notes.key_at, Code.Notes.notes_of}
use Rattle.message.specs.{Code.Cells.cells_at, Code.Cells.places_of, Code.Cells.command_at}
use Rattle.saying.specs.{Says.part_in, Fits.within, Written.tree_of, Written.pairs_from, Written.frame_of}
use Rattle.record.specs.Record.{body_in, message_of, lent_keys, data_of}
use Rattle.record.specs.{Says.body_sayings, Says.sayings_of, Fits.first_fault, Fits.fault_in, Written.payload_for}
use Rattle.record.specs.{Code.Places.reading_at, Code.Places.answer_by, Code.Places.answer_at}
use Rattle.record.specs.Meant.{Answered, refuses, lent_size, Meant}
use Rattle.record.proofs.Answered.{answer_meant}
use Rattle.writer.specs.Write.{framed, written}
use Rattle.examples.specs.{Example.AllHold, Starred.starred}

-- with enough bytes lent, the answer goes by the payload alone
computed : (s d : List ℕ) (a : Answered)
    → either (is_size (length s)) (λ _. answer_by s d (element_of s 8 Role.outer 0 0)) (λ _. refuses refusal.Size d) ≡ a
    → lent_size ≤ length d → Meant s d a
unfolding answer_at
computed s d a e h =
    let f : answer_at s d ≡ a = simp (le-ltb (length d) lent_size h) e in
    subst (Meant s d) f (answer_meant s d)

pub all_hold : AllHold starred
unfolding is_size reading_at places_of notes_of key_at cells_at command_at shallow_at cell_at element_of times span_of body_of fault_of head_of row_in lead_bytes big_at big_bytes leaf_at of_bits of_int to_bits bytes_of commands keys place_in slot_of command_of judge lists list_in body_in message_of lent_keys data_of gravest look_in place_among little_bytes put_at identifier pair_count whole_tree text_head many_head text_tree map_tree name_at body_sayings sayings_of part_in within first_fault fault_in tree_of pairs_from holds payload_for frame_of framed written
all_hold =
    let by : (s d : List ℕ) → lent_size ≤ length d → Meant s d _ = λ s d h. computed s d _ refl h in
    (refl, (by _, (by _, (by _, (by _, (by _, (by _, (by _, (by _, ((refl, refl), ((refl, refl), ((refl, refl), ((refl, refl), (refl, (refl, (refl, ((refl, refl), ((refl, refl), (by _, (by _, (by _, (by _, ((refl, refl), (refl, (refl, tt)))))))))))))))))))))))))
