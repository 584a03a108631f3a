use Rattle.field.proofs.Intos.{read_there}
use Rattle.field.proofs.octets_read.Goals as goal

pub returns-clause-room : goal.returns-clause-room
returns-clause-room c = read_there _ _ _ c.place_of.ensures _ c.in_ok-place_of.was _ _ c.octets_into.ensures.room
