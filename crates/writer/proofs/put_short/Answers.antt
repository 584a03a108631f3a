use Rattle.writer.proofs.Framing.{copies}
use borrow.Author.Rules.{rules}
use Rattle.std.proofs.Common.{rules}
use Rattle.writer.proofs.put_short.Goals as goal

pub payload-end-requires : goal.payload-end-requires
payload-end-requires c = search (copies, rules)

pub frame-requires : goal.frame-requires
frame-requires c = search (copies, rules)

pub slice_bounds-made-end : goal.slice_bounds-made-end
slice_bounds-made-end c = search (copies, rules)

pub slice_bounds-deliver-end : goal.slice_bounds-deliver-end
slice_bounds-deliver-end c = search (copies, rules)

pub returns : goal.returns
returns c = search (copies, rules)
