use Rattle.bodies.proofs.Readers.{version_told}
use Rattle.bodies.proofs.part.version.Goals as goal

pub returns : goal.returns
returns c = version_told _ _ _ _ _ _ c.passed.ensures _ c.version_cell-told.ensures c.err.ensures.value _ c.is_ok.ensures.value _ c.unwrap_or-numbers.ensures
