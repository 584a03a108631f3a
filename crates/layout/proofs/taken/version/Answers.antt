-- `version` meets its contract, by the laws of proofs/. Assumes nothing.
use Rattle.layout.proofs.taken.version.Goals as goal

pub returns : goal.returns
returns c = cc
