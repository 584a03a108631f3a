use Rattle.bodies.proofs.Bytes.{sixteen_is}
use Rattle.bodies.proofs.part.sixteen.Goals as goal

pub returns : goal.returns
returns c = sixteen_is _ _ _ _ _ _ _ _ c.passed.ensures c.octets_read-told.ensures.told c.exact-flaw.ensures c.octets_read-told.ensures.room _ c.is_none.ensures _ c.halves.ensures
