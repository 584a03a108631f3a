-- `wishes` meets its contract, by the laws of proofs/Putting. Assumes nothing.
use Rattle.writer.specs.Code.Parts.{wishes_parts}
use Rattle.writer.proofs.Putting.{chains}
use Rattle.writer.proofs.downlink.wishes.Goals as goal

pub returns : goal.returns
unfolding wishes_parts
returns c = search chains depth 1
