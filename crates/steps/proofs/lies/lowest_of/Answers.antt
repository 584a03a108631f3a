use native.Mathlib.Omega.{arith}
use Rattle.steps.proofs.Storing.{long}
use Rattle.steps.proofs.lies.lowest_of.Goals as goal

pub id_at-requires : goal.id_at-requires
id_at-requires c = let l = long _ c.requires in omega arith
