use borrow.Author.Rules.{rules}
use Rattle.names.proofs.Parts.{halves}
use Rattle.std.proofs.Common.{rules}
use Rattle.names.proofs.eight_of.Goals as goal

pub returns : goal.returns
returns c = search (halves, rules)
