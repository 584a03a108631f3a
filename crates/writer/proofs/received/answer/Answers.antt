-- `answer` meets its contract, by the laws of proofs/Putting. Assumes nothing.
use Rattle.writer.specs.Code.Parts.{answer_parts}
use Rattle.writer.proofs.Putting.{chains}
use Rattle.writer.proofs.received.answer.Goals as goal

pub returns : goal.returns
unfolding answer_parts
returns c = search chains depth 1
