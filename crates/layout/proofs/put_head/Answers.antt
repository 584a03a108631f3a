-- `put_head` meets its contract, by the laws of proofs/. Assumes nothing.
use Rattle.layout.specs.Image.{laid}
use mir.ValLaws.{to_z-of_z}
use mir.Syntax.{w64}
use Rattle.layout.proofs.put_head.Goals as goal

pub returns : goal.returns
unfolding laid
returns c = cc (to_z-of_z w64 c.args.z c.ranges.z)
