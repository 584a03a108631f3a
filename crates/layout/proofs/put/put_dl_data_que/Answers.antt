-- `put_dl_data_que` meets its contract, by the laws of proofs/. Assumes nothing.
use Rattle.layout.specs.Image.{laid, dl_data_que_lies}
use Rattle.layout.proofs.put.put_dl_data_que.Goals as goal

pub returns : goal.returns
unfolding laid dl_data_que_lies
returns c = cc
