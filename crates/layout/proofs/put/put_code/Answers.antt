-- `put_code` meets its contract, by the laws of proofs/. Assumes nothing.
use mir.ValLaws.{to_z-of_z}
use mir.Syntax.{w32}
use Rattle.layout.proofs.put.put_code.Goals as goal

pub returns : goal.returns
returns c = cc (to_z-of_z w32 c.args.z c.ranges.z)
