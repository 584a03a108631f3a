use Rattle.bodies.proofs.Readers.{held_mark}
use Rattle.bodies.proofs.part.mark.Goals as goal

pub returns : goal.returns
returns c = held_mark _ _ c.flag_cell-told.ensures _ _ _ _ _ c.err.ensures.value c.passed.ensures _ _ c.is_ok.ensures.value c.unwrap_or.ensures
