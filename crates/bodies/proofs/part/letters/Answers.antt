use Rattle.bodies.proofs.Readers.{plain_word}
use Rattle.bodies.proofs.part.letters.Goals as goal

pub returns : goal.returns
returns c = plain_word _ _ _ _ _ _ c.err.ensures.value c.passed.ensures _ c.unwrap_or.ensures _ c.text_cell-told.ensures
