use borrow.Author.Rules.{rules}
use Rattle.walk.proofs.Quick.{quicks}
use Rattle.std.proofs.Common.{rules}
use Rattle.walk.proofs.short.quick_key.Goals as goal

pub returns-then-s-at-clause-is : goal.returns-then-s-at-clause-is
returns-then-s-at-clause-is c = search (quicks, rules)

pub returns-then-count-ge-MOST_BEFORE_KEY-clause-is : goal.returns-then-count-ge-MOST_BEFORE_KEY-clause-is
returns-then-count-ge-MOST_BEFORE_KEY-clause-is c = search (quicks, rules)

pub returns-then-left-eq0-clause-is : goal.returns-then-left-eq0-clause-is
returns-then-left-eq0-clause-is c = search (quicks, rules)

pub returns-then-b-lt160-clause-is : goal.returns-then-b-lt160-clause-is
returns-then-b-lt160-clause-is c = search (quicks, rules)

pub returns-then-b-ge192-clause-is : goal.returns-then-b-ge192-clause-is
returns-then-b-ge192-clause-is c = search (quicks, rules)

pub returns-then-s-at-2-clause-is : goal.returns-then-s-at-2-clause-is
returns-then-s-at-2-clause-is c = search (quicks, rules)

pub returns-clause-is : goal.returns-clause-is
returns-clause-is c = search (quicks, rules)
