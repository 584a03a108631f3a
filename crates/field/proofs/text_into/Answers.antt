use Rattle.field.proofs.Strings.{text_there}
use Rattle.field.proofs.text_into.Goals as goal

pub returns-in-Some : goal.returns-in-Some
returns-in-Some c = text_there _ _ _ c.text_at.ensures _ _ c.in-Some.is _ c.copy.ensures
