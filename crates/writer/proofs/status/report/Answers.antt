-- `report` meets its contract, by the laws of proofs/Putting. Assumes nothing.
use Rattle.writer.specs.Code.Parts.{report_parts}
use Rattle.writer.proofs.Putting.{code_then}
use Rattle.writer.proofs.status.report.Goals as goal

pub returns : goal.returns
unfolding report_parts
returns c = search code_then
