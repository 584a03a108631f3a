-- `put_status_numbers` meets its contract, by the laws of proofs/. Assumes nothing.
use Rattle.layout.specs.Image.{laid, status_rsp_lies}
use Rattle.layout.proofs.put.put_status_numbers.Goals as goal

pub returns : goal.returns
unfolding laid status_rsp_lies
returns c = cc
