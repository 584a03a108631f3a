use borrow.Author.Rules.{rules}
use Rattle.queue.proofs.Slots.{slots}
use Rattle.std.proofs.Common.{rules}
use Rattle.queue.proofs.store.names_counter.Goals as goal

pub returns-then-not-is_set : goal.returns-then-not-is_set
returns-then-not-is_set c = search (slots, rules)

pub returns : goal.returns
returns c = search (slots, rules)
