use mathlib.Core.Path.{◌∙◌}
use native.Mathlib.Omega.{arith}
use lib.ListN.{length-set}
use Rattle.field.proofs.Intos.{roomy, fit_next, lead_next, lead_end, lead_stop}
use Rattle.field.proofs.into.parts_into.Goals as goal

pub returns-in_err-part-clause-room : goal.returns-in_err-part-clause-room
returns-in_err-part-clause-room c =
    lead_stop _ _ _ _ _ _ _ c.loop-i-2.invariant.4 _ c.loop-i-2-test.true c.part_at.ensures c.in_err-part.was

pub loop-i-2-preserved : goal.loop-i-2-preserved
loop-i-2-preserved c = (
  omega arith,
  roomy _ _ _ _ c.loop-i-2.invariant.1,
  length-set _ _ _ ∙ c.loop-i-2.invariant.2,
  fit_next _ _ _ _ _ c.loop-i-2.invariant.3 _ c.loop-i-2-test.true c.part_at.ensures _ c.in_ok-part.was,
  lead_next _ _ _ _ _ _ _ c.loop-i-2.invariant.4 _ c.loop-i-2-test.true c.part_at.ensures _ c.in_ok-part.was c.loop-i-2.invariant.1,
)

pub returns-clause-room : goal.returns-clause-room
returns-clause-room c = lead_end _ _ _ _ _ _ _ c.loop-i-2.invariant.4 c.loop-i-2-test.false
