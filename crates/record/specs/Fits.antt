-- Document 01's 15 for a record to write: the first of its command's fields that is at fault, in document 01's order.
use Rattle.std.specs.Prelude.{ℕ, suc, eqb}
use mathlib.Core.{Bool.Bool, List.List, List.[], List.◌∷◌}
use Rattle.octets.specs.Choice.{either}
use Rattle.message.specs.Fields.{Field, fields_of}
use Rattle.saying.specs.{Says.Part, Fits.field_fits}
use Rattle.record.specs.declared.Message.{Message}
use Rattle.record.specs.{Record.command_in, Says.part_of}

-- one more than the place of the first field at fault, where the first of the list has place i; 0 where none is
unfoldable pub first_fault : ℕ → List Field → (List ℕ → Part) → ℕ
first_fault i [] part = 0
first_fault i (f ∷ l) part = either (field_fits f (part f.key)) (λ _. first_fault (suc i) l part) (λ _. suc i)

unfoldable pub fault_in : Message → List ℕ → ℕ
fault_in m d = first_fault 0 (fields_of (command_in m.body)) (part_of m d)

abbrev pub fits : Message → List ℕ → Bool
fits m d = eqb (fault_in m d) 0
