use Rattle.bodies.proofs.Readers.{held_figure}
use Rattle.bodies.proofs.part.real.Goals as goal

pub returns : goal.returns
returns c = held_figure _ _ c.real_cell-told.ensures _ _ _ _ _ c.err.ensures.value c.passed.ensures _ _ c.is_ok.ensures.value c.unwrap_or.ensures
