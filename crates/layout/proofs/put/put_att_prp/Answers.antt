-- `put_att_prp` meets its contract, by the laws of proofs/. Assumes nothing.
use Rattle.layout.specs.Image.{laid, att_prp_lies}
use Rattle.layout.proofs.put.put_att_prp.Goals as goal

pub returns : goal.returns
unfolding laid att_prp_lies
returns c = cc
