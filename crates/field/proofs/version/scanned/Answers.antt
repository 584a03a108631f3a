use native.Mathlib.Omega.{arith}
use Rattle.field.proofs.Feeding.{scan_on}
use Rattle.field.proofs.version.scanned.Goals as goal

pub loop-i-preserved : goal.loop-i-preserved
loop-i-preserved c = (omega arith, scan_on _ _ _ _ _ _ c.loop-i.invariant.1 c.requires c.loop-i-test.true _ c.fed.ensures _ c.in_ok-v.was)
