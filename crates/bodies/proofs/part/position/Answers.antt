use Rattle.bodies.proofs.Readers.{held_position}
use Rattle.bodies.proofs.part.position.Goals as goal

pub returns : goal.returns
returns c = held_position _ _ c.position_cell-told.ensures _ _ _ _ _ c.err.ensures.value c.passed.ensures _ _ c.is_ok.ensures.value c.unwrap_or.ensures
