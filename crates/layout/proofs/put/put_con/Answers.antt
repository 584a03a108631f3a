-- `put_con` meets its contract, by the laws of proofs/. Assumes nothing.
use Rattle.layout.specs.Image.{laid, con_lies}
use Rattle.layout.proofs.put.put_con.Goals as goal

pub returns : goal.returns
unfolding laid con_lies
returns c = cc
