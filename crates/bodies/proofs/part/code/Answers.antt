use borrow.Author.Rules.{rules}
use Rattle.std.proofs.Common.{rules}
use Rattle.bodies.proofs.Readers.{code_is}
use Rattle.bodies.proofs.part.code.Goals as goal

pub returns : goal.returns
returns c = code_is _ _ _ _ _ _ _ _ c.err.ensures.value c.passed.ensures _ c.unwrap_or.ensures _ c.whole_cell-told.ensures (search rules) c.signed32_of.ensures
