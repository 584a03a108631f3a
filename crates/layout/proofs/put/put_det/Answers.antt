-- `put_det` meets its contract, by the laws of proofs/. Assumes nothing.
use Rattle.layout.specs.Image.{laid, packet_lies, det_lies}
use Rattle.layout.proofs.put.put_det.Goals as goal

pub returns : goal.returns
unfolding laid packet_lies det_lies
returns c = cc
