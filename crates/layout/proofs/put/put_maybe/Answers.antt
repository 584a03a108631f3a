-- `put_maybe` meets its contract, by the laws of proofs/. Assumes nothing.
use Rattle.layout.specs.Image.{laid}
use Rattle.layout.proofs.put.put_maybe.Goals as goal

pub returns : goal.returns
unfolding laid
returns c = cc
