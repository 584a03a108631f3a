use Rattle.writer.proofs.Framing.{deliveries}
use borrow.Author.Rules.{rules}
use Rattle.std.proofs.Common.{rules}
use Rattle.writer.proofs.deliver.Goals as goal

pub returns-then-room-size : goal.returns-then-room-size
returns-then-room-size c = search (deliveries, rules)

pub returns : goal.returns
returns c = search (deliveries, rules)
