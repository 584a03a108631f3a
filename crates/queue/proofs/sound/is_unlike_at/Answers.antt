use borrow.Author.Rules.{rules}
use Rattle.queue.proofs.Judged.{unlikes}
use Rattle.std.proofs.Common.{rules}
use Rattle.queue.proofs.sound.is_unlike_at.Goals as goal

pub returns-then-has_id : goal.returns-then-has_id
returns-then-has_id c = search (unlikes, rules)
