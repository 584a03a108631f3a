-- The cells of a list by places in the bytes: what the code goes by. proofs/Stands ties them to what the outer map says.
use Rattle.std.specs.Prelude.{ℕ, zero, suc, get_or}
use mathlib.Core.{Bool.true, Bool.false, List.List, List.[], List.◌∷◌, Option.Option, Option.some, Option.none}
use Rattle.element.specs.declared.Span.{Span, TheVariants.Cut, TheVariants.Ends, TheVariants.Holds}
use Rattle.element.specs.Form.{span_of}
use Rattle.names.specs.{Names.command_of, Code.Slots.slot_of}
use Rattle.field.specs.{Judge.text_of, Cell.Cell, Code.At.shallow_at, Code.At.cell_at}
use Rattle.message.specs.{Fields.Field, Code.Notes.notes_of, Code.Notes.unnoted}

unfoldable pub cells_at : List Field → List ℕ → List ℕ → List Cell
cells_at [] s places = []
cells_at (f ∷ l) s places = cell_at f.kind s (get_or places (slot_of f.key) 0) ∷ cells_at l s places

-- where the values of the outer map's keys stand, in a payload whose outer map is whole
abbrev pub places_by : List ℕ → Span → List ℕ
places_by s Cut = unnoted
places_by s (Ends p) = unnoted
places_by s (Holds from n true) = notes_of s n from 1 unnoted
places_by s (Holds from n false) = unnoted

unfoldable pub places_of : List ℕ → List ℕ
places_of s = places_by s (span_of s 0)

-- the command's number by the place of its text: 24 for a text that names none (12), 25 where there is no one text (11)
abbrev pub numbered : Option (List ℕ) → ℕ
numbered none = 25
numbered (some n) = command_of n

unfoldable pub command_at : List ℕ → ℕ → ℕ
command_at s zero = 25
command_at s (suc zero) = 25
command_at s (suc (suc p)) = numbered (text_of (shallow_at s (suc (suc p))))
