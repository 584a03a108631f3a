use Rattle.bodies.proofs.Bytes.{profile_is}
use Rattle.bodies.proofs.part.profile.Goals as goal

pub returns : goal.returns
returns c = profile_is _ _ _ _ _ _ _ c.text_cell-told.ensures _ c.err.ensures.value c.passed.ensures _ c.unwrap_or.ensures _ c.is_ok.ensures.value c.text_into.ensures _ c.halves.ensures
