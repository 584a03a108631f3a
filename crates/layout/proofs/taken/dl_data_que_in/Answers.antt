-- `dl_data_que_in` meets its contract, by the laws of proofs/. Assumes nothing.
use Rattle.layout.specs.Taken.{dl_data_que_at}
use Rattle.layout.proofs.taken.dl_data_que_in.Goals as goal

pub returns : goal.returns
unfolding dl_data_que_at
returns c = cc
