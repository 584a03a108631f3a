use Rattle.layout.proofs.Putting.{cleared}
use borrow.Author.Rules.{rules}
use Rattle.std.proofs.Common.{rules}
use Rattle.layout.proofs.clear.Goals as goal

pub returns : goal.returns
returns c = search (cleared, rules)
