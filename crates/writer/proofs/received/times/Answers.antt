-- `times` meets its contract, by the laws of proofs/Putting. Assumes nothing.
use Rattle.writer.specs.Code.Parts.{times_parts}
use Rattle.writer.proofs.Putting.{chains}
use Rattle.writer.proofs.received.times.Goals as goal

pub returns : goal.returns
unfolding times_parts
returns c = search chains depth 1
