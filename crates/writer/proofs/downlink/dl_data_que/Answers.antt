-- `dl_data_que` meets its contract, by the laws of proofs/Bodies. Assumes nothing.
use Rattle.names.specs.Names.{commands, name_at}
use Rattle.writer.proofs.Bodies.{downlink_put}
use Rattle.writer.proofs.downlink.dl_data_que.Goals as goal

pub returns : goal.returns
unfolding commands name_at
returns c = search downlink_put
