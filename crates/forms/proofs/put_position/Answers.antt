-- The head and three reals, one behind the other. Assumes nothing.
use Rattle.forms.proofs.Heads.{placed}
use Rattle.forms.proofs.put_position.Goals as goal

pub returns : goal.returns
returns c =
    placed _ _ _ _ _ _ _ _
    c.put_real.ensures
    c.put_real-second.ensures
    c.put_real-first.ensures
    c.put_led-head.ensures
