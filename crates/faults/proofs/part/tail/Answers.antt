use borrow.Author.Rules.{rules}
use Rattle.faults.proofs.Tails.{tails}
use Rattle.std.proofs.Common.{rules}
use Rattle.faults.proofs.part.tail.Goals as goal

pub returns-then-n-lt-HALF : goal.returns-then-n-lt-HALF
returns-then-n-lt-HALF c = search (tails, rules)

pub returns-then-n-lt-ALL : goal.returns-then-n-lt-ALL
returns-then-n-lt-ALL c = search (tails, rules)

pub returns : goal.returns
returns c = search (tails, rules)
