use borrow.Author.Rules.{rules}
use Rattle.queue.proofs.Adding.{entries}
use Rattle.std.proofs.Common.{rules}
use Rattle.queue.proofs.put_entry.Goals as goal

pub returns : goal.returns
returns c = search (entries, rules)
