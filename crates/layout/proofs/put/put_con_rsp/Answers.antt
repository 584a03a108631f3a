-- `put_con_rsp` meets its contract, by the laws of proofs/. Assumes nothing.
use Rattle.layout.specs.Image.{laid, con_rsp_lies}
use Rattle.layout.proofs.put.put_con_rsp.Goals as goal

pub returns : goal.returns
unfolding laid con_rsp_lies
returns c = cc
