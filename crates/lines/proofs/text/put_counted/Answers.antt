use borrow.Author.Rules.{rules}
use Rattle.lines.proofs.Texts.{counted_put}
use Rattle.std.proofs.Common.{rules}
use Rattle.lines.proofs.text.put_counted.Goals as goal

pub returns : goal.returns
returns c = search (counted_put, rules)
