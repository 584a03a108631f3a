use borrow.Author.Rules.{rules}
use Rattle.faults.proofs.Bodies.{whole}
use Rattle.std.proofs.Common.{rules}
use Rattle.faults.proofs.fault.Goals as goal

pub returns-in-Some : goal.returns-in-Some
returns-in-Some c = search (whole, rules)

pub returns-in-None : goal.returns-in-None
returns-in-None c = search (whole, rules)
