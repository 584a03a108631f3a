use borrow.Author.Rules.{rules}
use Rattle.day.proofs.Texts.{lining}
use Rattle.std.proofs.Common.{rules}
use Rattle.day.specs.Lines.{line_of}
use Rattle.day.proofs.line.Goals as goal

pub returns-in-Some : goal.returns-in-Some
unfolding line_of
returns-in-Some c = search (lining, rules)

pub returns-in-None : goal.returns-in-None
returns-in-None c = search (lining, rules)
