-- `put_mark` meets its contract, by the laws of proofs/. Assumes nothing.
use Rattle.layout.proofs.Putting.{mark_is}
use Rattle.layout.proofs.put.put_mark.Goals as goal

pub returns : goal.returns
returns c = cc (mark_is c.args.x)
