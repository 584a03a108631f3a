use borrow.Author.Rules.{rules}
use Rattle.lines.proofs.Texts.{message_put}
use Rattle.std.proofs.Common.{rules}
use Rattle.lines.proofs.text.put_message.Goals as goal

pub returns : goal.returns
returns c = search (message_put, rules)
