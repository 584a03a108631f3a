use Rattle.writer.proofs.Putting.{numbers}
use borrow.Author.Rules.{rules}
use Rattle.std.proofs.Common.{rules}
use Rattle.writer.proofs.pair.four.Goals as goal

pub returns : goal.returns
returns c = search (numbers, rules)
