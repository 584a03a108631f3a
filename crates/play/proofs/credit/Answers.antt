use borrow.Author.Rules.{rules}
use Rattle.play.proofs.Crediting.{crediting}
use Rattle.std.proofs.Common.{rules}
use Rattle.play.proofs.credit.Goals as goal

pub returns-in_default-clause-table : goal.returns-in_default-clause-table
returns-in_default-clause-table c = search (crediting, rules)

pub returns-in-New-clause-table : goal.returns-in-New-clause-table
returns-in-New-clause-table c = search (crediting, rules)

pub returns-in-Copy-clause-table : goal.returns-in-Copy-clause-table
returns-in-Copy-clause-table c = search (crediting, rules)
