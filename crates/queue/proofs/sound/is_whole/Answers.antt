use borrow.Author.Rules.{rules}
use Rattle.queue.proofs.Judged.{wholes}
use Rattle.std.proofs.Common.{rules}
use Rattle.queue.proofs.sound.is_whole.Goals as goal

pub returns-then-not-is_used : goal.returns-then-not-is_used
returns-then-not-is_used c = search (wholes, rules)

pub returns : goal.returns
returns c = search (wholes, rules)
