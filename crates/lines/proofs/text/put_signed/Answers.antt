use borrow.Author.Rules.{rules}
use Rattle.lines.proofs.Texts.{signs}
use Rattle.std.proofs.Common.{rules}
use Rattle.lines.proofs.text.put_signed.Goals as goal

pub returns-then-x-lt0 : goal.returns-then-x-lt0
returns-then-x-lt0 c = search (signs, rules)

pub returns : goal.returns
returns c = search (signs, rules)
