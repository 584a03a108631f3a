use borrow.Author.Rules.{rules}
use Rattle.std.proofs.Common.{rules}
use Rattle.trace.proofs.Recording.{placing}
use Rattle.trace.proofs.recorder.place.Goals as goal

pub returns : goal.returns
returns c = search (placing, rules)
