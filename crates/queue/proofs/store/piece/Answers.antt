use borrow.Author.Rules.{rules}
use Rattle.queue.proofs.Slots.{slots}
use Rattle.std.proofs.Common.{rules}
use Rattle.queue.proofs.store.piece.Goals as goal

pub returns-then-not-is_set-clause-value : goal.returns-then-not-is_set-clause-value
returns-then-not-is_set-clause-value c = search (slots, rules)

pub returns-clause-value : goal.returns-clause-value
returns-clause-value c = search (slots, rules)
