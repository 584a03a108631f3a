use borrow.Author.Rules.{rules}
use Rattle.std.proofs.Common.{rules}
use Rattle.bodies.proofs.Readers.{number_is}
use Rattle.bodies.proofs.part.id.Goals as goal

pub returns : goal.returns
returns c = number_is _ _ _ _ _ _ _ _ c.err.ensures.value c.passed.ensures _ c.unwrap_or.ensures _ _ _ c.requires.1 c.requires.2 c.whole_cell-told.ensures _ c.is_ok.ensures.value (search rules) c.signed_of.ensures
