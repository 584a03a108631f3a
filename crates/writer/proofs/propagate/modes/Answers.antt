-- `modes` meets its contract, by the laws of proofs/Putting. Assumes nothing.
use Rattle.writer.specs.Code.Parts.{modes_parts}
use Rattle.writer.proofs.Putting.{chains}
use Rattle.writer.proofs.propagate.modes.Goals as goal

pub returns : goal.returns
unfolding modes_parts
returns c = search chains depth 1
