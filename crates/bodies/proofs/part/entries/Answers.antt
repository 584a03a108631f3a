use Rattle.bodies.proofs.Readers.{parts_told}
use Rattle.bodies.proofs.part.entries.Goals as goal

pub returns : goal.returns
returns c = parts_told _ _ _ _ _ _ c.passed.ensures _ c.pieces_cell-told.ensures c.err-flaw.ensures.value _ c.unwrap_or.ensures
