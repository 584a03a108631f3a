use borrow.Author.Rules.{rules}
use Rattle.walk.proofs.Runs.{passings}
use Rattle.std.proofs.Common.{rules}
use Rattle.walk.proofs.run.eights.Goals as goal

pub overflow_add-q : goal.overflow_add-q
overflow_add-q c = search (passings, rules)

pub overflow_add-i : goal.overflow_add-i
overflow_add-i c = search (passings, rules)

pub loop-q-smaller : goal.loop-q-smaller
loop-q-smaller c = search (passings, rules)

pub loop-q-preserved : goal.loop-q-preserved
loop-q-preserved c = search (passings, rules)
