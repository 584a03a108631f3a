-- `sixteen` meets its contract, by the laws of proofs/. Assumes nothing.
use Rattle.layout.proofs.taken.sixteen.Goals as goal

pub returns : goal.returns
returns c = cc
