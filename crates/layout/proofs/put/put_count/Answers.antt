-- `put_count` meets its contract, by the laws of proofs/. Assumes nothing.
use Rattle.layout.proofs.put.put_count.Goals as goal

pub returns : goal.returns
returns c = cc
