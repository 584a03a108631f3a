use borrow.Author.Rules.{rules}
use Rattle.day.proofs.Texts.{reading_put}
use Rattle.std.proofs.Common.{rules}
use Rattle.day.proofs.text.put_reading.Goals as goal

pub returns : goal.returns
returns c = search (reading_put, rules)
