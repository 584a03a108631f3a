-- `packet_in` meets its contract, by the laws of proofs/. Assumes nothing.
use Rattle.layout.specs.Taken.{packet_at}
use Rattle.layout.proofs.taken.packet_in.Goals as goal

pub returns : goal.returns
unfolding packet_at
returns c = cc
