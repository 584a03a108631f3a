use borrow.Author.Rules.{rules}
use Rattle.queue.proofs.Lents.{lengths}
use Rattle.std.proofs.Common.{rules}
use Rattle.queue.proofs.store.length_of.Goals as goal

pub loop-i-init : goal.loop-i-init
loop-i-init c = search (lengths, rules)

pub loop-i-preserved : goal.loop-i-preserved
loop-i-preserved c = search (lengths, rules)
