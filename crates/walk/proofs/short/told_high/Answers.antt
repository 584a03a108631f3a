use borrow.Author.Rules.{rules}
use Rattle.walk.proofs.Quick.{tolds}
use Rattle.walk.proofs.Sizes.{sizes}
use Rattle.std.proofs.Common.{rules}
use Rattle.walk.proofs.short.told_high.Goals as goal

pub returns-then-is_number-clause-is : goal.returns-then-is_number-clause-is
returns-then-is_number-clause-is c = search (sizes, tolds, rules)

pub returns-then-b-ge224-clause-is : goal.returns-then-b-ge224-clause-is
returns-then-b-ge224-clause-is c = search (sizes, tolds, rules)

pub returns-then-b-ne193-clause-is : goal.returns-then-b-ne193-clause-is
returns-then-b-ne193-clause-is c = search (sizes, tolds, rules)
