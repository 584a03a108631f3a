use borrow.Author.Rules.{rules}
use Rattle.queue.proofs.Slots.{slots}
use Rattle.std.proofs.Common.{rules}
use Rattle.queue.proofs.store.suits.Goals as goal

pub returns-then-little_at-wanted : goal.returns-then-little_at-wanted
returns-then-little_at-wanted c = search (slots, rules)

pub returns : goal.returns
returns c = search (slots, rules)
