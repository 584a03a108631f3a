use borrow.Author.Rules.{rules}
use Rattle.walk.proofs.Quick.{tolds}
use Rattle.walk.proofs.Sizes.{sizes}
use Rattle.std.proofs.Common.{rules}
use Rattle.walk.proofs.short.told_low.Goals as goal

pub returns-then-b-ge160-clause-is : goal.returns-then-b-ge160-clause-is
returns-then-b-ge160-clause-is c = search (sizes, tolds, rules)
