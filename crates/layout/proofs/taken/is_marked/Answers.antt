use Rattle.layout.proofs.Taking.{marked}
use borrow.Author.Rules.{rules}
use Rattle.std.proofs.Common.{rules}
use Rattle.layout.proofs.taken.is_marked.Goals as goal

pub returns-in-4 : goal.returns-in-4
returns-in-4 c = search (marked, rules)

pub returns-in-6 : goal.returns-in-6
returns-in-6 c = search (marked, rules)

pub returns-in-7 : goal.returns-in-7
returns-in-7 c = search (marked, rules)

pub returns-in-8-to-255 : goal.returns-in-8-to-255
returns-in-8-to-255 c = search (marked, rules)
