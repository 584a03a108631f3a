use borrow.Author.Rules.{rules}
use Rattle.play.proofs.Crediting.{passing}
use Rattle.std.proofs.Common.{rules}
use Rattle.play.proofs.to_table.Goals as goal

pub returns-in-UlData : goal.returns-in-UlData
returns-in-UlData c = search (passing, rules)

pub returns-in_default : goal.returns-in_default
returns-in_default c = search (passing, rules)
