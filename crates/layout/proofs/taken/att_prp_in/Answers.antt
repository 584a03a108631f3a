-- `att_prp_in` meets its contract, by the laws of proofs/. Assumes nothing.
use Rattle.layout.specs.Taken.{att_prp_at}
use Rattle.layout.proofs.taken.att_prp_in.Goals as goal

pub returns : goal.returns
unfolding att_prp_at
returns c = cc
