-- `put_id` meets its contract, by the laws of proofs/. Assumes nothing.
use mir.ValLaws.{to_z-of_z}
use mir.Syntax.{w64}
use Rattle.layout.proofs.put.put_id.Goals as goal

pub returns : goal.returns
returns c = cc (to_z-of_z w64 c.args.z c.ranges.z)
