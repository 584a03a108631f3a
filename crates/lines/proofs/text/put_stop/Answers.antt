use borrow.Author.Rules.{rules}
use Rattle.lines.proofs.Texts.{stop_put}
use Rattle.std.proofs.Common.{rules}
use Rattle.lines.proofs.text.put_stop.Goals as goal

pub returns : goal.returns
returns c = search (stop_put, rules)
