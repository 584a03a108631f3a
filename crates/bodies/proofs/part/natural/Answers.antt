use Rattle.bodies.proofs.Readers.{plain_word}
use Rattle.bodies.proofs.part.natural.Goals as goal

pub returns-clause-held : goal.returns-clause-held
returns-clause-held c = plain_word _ _ _ _ _ _ c.err.ensures.value c.passed.ensures _ c.unwrap_or.ensures _ c.whole_cell-told.ensures
