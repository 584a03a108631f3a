-- `det_in` meets its contract, by the laws of proofs/. Assumes nothing.
use Rattle.layout.proofs.taken.det_in.Goals as goal

pub returns : goal.returns
returns c = cc
