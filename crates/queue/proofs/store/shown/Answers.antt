use borrow.Author.Rules.{rules}
use Rattle.queue.proofs.Slots.{showing}
use Rattle.std.proofs.Common.{rules}
use Rattle.queue.proofs.store.shown.Goals as goal

pub returns : goal.returns
returns c = search (showing, rules)
