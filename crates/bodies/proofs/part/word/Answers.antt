use Rattle.bodies.proofs.Readers.{held_word}
use Rattle.bodies.proofs.part.word.Goals as goal

pub returns : goal.returns
returns c = held_word _ _ c.whole_cell-told.ensures _ _ _ _ _ c.err.ensures.value c.passed.ensures _ _ c.is_ok.ensures.value c.unwrap_or.ensures
