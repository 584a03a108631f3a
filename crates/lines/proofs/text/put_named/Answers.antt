use borrow.Author.Rules.{rules}
use Rattle.lines.proofs.Texts.{named_put}
use Rattle.std.proofs.Common.{rules}
use Rattle.lines.proofs.text.put_named.Goals as goal

pub returns : goal.returns
returns c = search (named_put, rules)
