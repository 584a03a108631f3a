-- At each turn the walk's answer from here is the answer, and so are the places. Assumes nothing.
use Rattle.std.proofs.Common.{◌≡◌, ◌-◌, true}
use Rattle.element.specs.Code.Items.{items_of}
use Rattle.message.specs.Code.Notes.{notes_of}
use Rattle.notes.proofs.pass.pass.Given as goal

abbrev pub invariant-loop : goal.invariant-loop
invariant-loop l =
    (items_of l.s 7 true l.n l.from 1 ≡ items_of l.s 7 true (l.n - l.counter) l.next.at l.next.count)
    × (notes_of l.s l.n l.from 1 l.initial.places ≡ notes_of l.s (l.n - l.counter) l.next.at l.next.count l.places)
