-- `con_rsp_in` meets its contract, by the laws of proofs/. Assumes nothing.
use Rattle.layout.specs.Taken.{con_rsp_at}
use Rattle.layout.proofs.taken.con_rsp_in.Goals as goal

pub returns : goal.returns
unfolding con_rsp_at
returns c = cc
