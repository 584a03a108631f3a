-- `no_position` meets its contract. Assumes nothing.
use Rattle.faults.proofs.part.no_position.Goals as goal

pub returns : goal.returns
returns c = cc
