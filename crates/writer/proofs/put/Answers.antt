use Rattle.writer.proofs.Framing.{frames}
use borrow.Author.Rules.{rules}
use Rattle.std.proofs.Common.{rules}
use Rattle.writer.proofs.put.Goals as goal

pub payload-end-requires : goal.payload-end-requires
payload-end-requires c = search (frames, rules)

pub frame-requires : goal.frame-requires
frame-requires c = search (frames, rules)

pub returns : goal.returns
returns c = search (frames, rules)
