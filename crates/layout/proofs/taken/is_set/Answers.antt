-- `is_set` meets its contract, by the laws of proofs/. Assumes nothing.
use Rattle.layout.proofs.taken.is_set.Goals as goal

pub returns : goal.returns
returns c = cc
