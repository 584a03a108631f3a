use native.Mathlib.Omega.{arith}
use Rattle.forms.proofs.Running.{run_in}
use Rattle.forms.proofs.put_run.Goals as goal

pub returns : goal.returns
returns c = run_in _ _ _ _ c.has_room.ensures c.if-not-has_room.false _ c.loop-i.i c.loop-i.invariant.2 (omega (arith, c.loop-i-test.false))
