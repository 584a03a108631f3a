use Rattle.field.proofs.Intos.{lead_there}
use Rattle.field.proofs.into.array_into.Goals as goal

pub returns-clause-room : goal.returns-clause-room
returns-clause-room c = lead_there _ _ _ c.array_at.ensures _ _ _ c.in_ok-a.was _ c.if-out-to.false c.parts_into.ensures.room
