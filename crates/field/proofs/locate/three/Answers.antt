use mathlib.Core.Path.{◌∙◌}
use Rattle.field.proofs.Positions.{third_none, three_there}
use Rattle.field.proofs.locate.three.Goals as goal

pub returns-in_err-c : goal.returns-in_err-c
returns-in_err-c c = c.from_residual-in_err-c.ensures ∙ third_none _ _ _ c.measure_at.ensures _ c.in_ok-a.was _ c.measure_at-2.ensures _ c.in_ok-b.was _ c.measure_at-3.ensures c.in_err-c.was

pub returns : goal.returns
returns c = three_there _ _ _ c.measure_at.ensures _ c.in_ok-a.was _ c.measure_at-2.ensures _ c.in_ok-b.was _ c.measure_at-3.ensures _ c.in_ok-c.was
