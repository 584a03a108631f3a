use Rattle.field.proofs.Reals.{real_some}
use Rattle.field.proofs.real.real_at.Goals as goal

pub returns : goal.returns
returns c = real_some _ _ _ c.number_at.ensures _ _ c.in_ok-number_at.was c.real_in.ensures
