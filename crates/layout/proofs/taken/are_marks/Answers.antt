use Rattle.layout.proofs.Taking.{marks}
use borrow.Author.Rules.{rules}
use Rattle.std.proofs.Common.{rules}
use Rattle.layout.proofs.taken.are_marks.Goals as goal

pub loop-i-preserved : goal.loop-i-preserved
loop-i-preserved c = search (marks, rules)

pub returns : goal.returns
returns c = search (marks, rules)
