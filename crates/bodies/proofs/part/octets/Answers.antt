use borrow.Author.Rules.{rules}
use Rattle.std.proofs.Common.{rules}
use Rattle.bodies.proofs.Readers.{plain_octets}
use Rattle.bodies.proofs.part.octets.Goals as goal

pub returns-clause-held : goal.returns-clause-held
returns-clause-held c = plain_octets _ _ _ _ _ _ c.err.ensures.value c.passed.ensures _ c.unwrap_or.ensures _ _ _ (search rules) c.octets_read-told.ensures.told
