use borrow.Author.Rules.{rules}
use Rattle.day.proofs.Turning.{turning}
use Rattle.std.proofs.Common.{rules}
use Rattle.day.proofs.between.Goals as goal

pub returns-then-len-last : goal.returns-then-len-last
returns-then-len-last c = search (turning, rules)

pub returns : goal.returns
returns c = search (turning, rules)
