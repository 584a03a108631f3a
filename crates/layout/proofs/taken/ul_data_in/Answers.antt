-- `ul_data_in` meets its contract, by the laws of proofs/. Assumes nothing.
use Rattle.layout.specs.Taken.{ul_data_at}
use Rattle.layout.proofs.taken.ul_data_in.Goals as goal

pub returns : goal.returns
unfolding ul_data_at
returns c = cc
