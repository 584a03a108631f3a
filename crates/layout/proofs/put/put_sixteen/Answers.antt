-- `put_sixteen` meets its contract, by the laws of proofs/. Assumes nothing.
use Rattle.layout.specs.Image.{laid}
use Rattle.layout.proofs.put.put_sixteen.Goals as goal

pub returns : goal.returns
unfolding laid
returns c = cc
