-- The room that an array's bytes are read into in one pass: they stand in it as far as the first part that is no byte.
use Rattle.std.specs.Prelude.{ℕ, zero, suc, ◌-◌}
use mathlib.Core.{List.List, List.[], List.◌∷◌, Option.Option, Option.some, Option.none}
use lib.{Dec.leb, ListN.length}
use Rattle.octets.specs.{Choice.either, Bytes.put_at}
use Rattle.element.specs.{Meaning.Elements, Meaning.Elements.no_more, Meaning.Elements.more}
use Rattle.number.specs.Number.{number_of}
use Rattle.field.specs.{Judge.parts_of, Judge.octet_in, Code.At.shallow_at}

unfoldable pub parts_counted : Elements → ℕ
parts_counted no_more = 0
parts_counted (more e es) = suc (parts_counted es)

abbrev pub lead_by : Option ℕ → List ℕ → List ℕ
lead_by none bs = []
lead_by (some b) bs = b ∷ bs

-- the bytes that the parts of an array are, up to the first that is none
unfoldable pub leading_in : Elements → List ℕ
leading_in no_more = []
leading_in (more e es) = lead_by (octet_in (number_of e)) (leading_in es)

-- a room with them from a place on, where it has space for all parts; as it is where there is no array
abbrev pub into_by : Option Elements → List ℕ → ℕ → List ℕ
into_by none room to = room
into_by (some es) room to = either (leb (parts_counted es) (length room - to)) (λ _. put_at room to (leading_in es)) (λ _. room)

-- the element at a place
unfoldable pub lead_into : List ℕ → ℕ → List ℕ → ℕ → List ℕ
lead_into s at room to = into_by (parts_of (shallow_at s at)) room to

-- where a key's value stands, as for `cell_at`: nothing is read where it stands nowhere or in several places
unfoldable pub read_into : List ℕ → ℕ → List ℕ → List ℕ
read_into s zero room = room
read_into s (suc zero) room = room
read_into s (suc (suc p)) room = lead_into s (suc (suc p)) room 0
