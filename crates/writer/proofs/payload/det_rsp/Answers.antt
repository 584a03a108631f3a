-- `det_rsp` meets its contract, by the laws of proofs/Putting. Assumes nothing.
use Rattle.names.specs.Names.{commands, name_at}
use Rattle.writer.specs.Code.Parts.{pairs_in, groups_in, body_parts}
use Rattle.writer.proofs.Putting.{titles}
use Rattle.writer.proofs.payload.det_rsp.Goals as goal

pub returns : goal.returns
unfolding body_parts pairs_in groups_in commands name_at
returns c = search titles
