-- `put_ul_data` meets its contract, by the laws of proofs/. Assumes nothing.
use Rattle.layout.specs.Image.{laid, packet_lies, ul_data_lies}
use Rattle.layout.proofs.put.put_ul_data.Goals as goal

pub returns : goal.returns
unfolding laid packet_lies ul_data_lies
returns c = cc
