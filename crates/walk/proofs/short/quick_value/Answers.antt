use borrow.Author.Rules.{rules}
use Rattle.walk.proofs.Quick.{quicks}
use Rattle.std.proofs.Common.{rules}
use Rattle.walk.proofs.short.quick_value.Goals as goal

pub returns-then-s-at-clause-is : goal.returns-then-s-at-clause-is
returns-then-s-at-clause-is c = search (quicks, rules)

pub returns-then-count-ge-MOST_ELEMENTS-clause-is : goal.returns-then-count-ge-MOST_ELEMENTS-clause-is
returns-then-count-ge-MOST_ELEMENTS-clause-is c = search (quicks, rules)

pub returns-then-left-eq0-clause-is : goal.returns-then-left-eq0-clause-is
returns-then-left-eq0-clause-is c = search (quicks, rules)

pub returns-then-b-lt128-clause-is : goal.returns-then-b-lt128-clause-is
returns-then-b-lt128-clause-is c = search (quicks, rules)

pub returns-clause-is : goal.returns-clause-is
returns-clause-is c = search (quicks, rules)
