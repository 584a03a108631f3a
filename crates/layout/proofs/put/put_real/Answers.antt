-- `put_real` meets its contract, by the laws of proofs/. Assumes nothing.
use Rattle.layout.proofs.put.put_real.Goals as goal

pub returns : goal.returns
returns c = cc
