-- `put_words` meets its contract, by the laws of proofs/. Assumes nothing.
use Rattle.layout.proofs.put.put_words.Goals as goal

pub returns : goal.returns
returns c = cc
