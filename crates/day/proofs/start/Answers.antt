use borrow.Author.Rules.{rules}
use Rattle.day.proofs.Recording.{starting}
use Rattle.std.proofs.Common.{rules}
use Rattle.day.proofs.start.Goals as goal

pub returns-in-Ok : goal.returns-in-Ok
returns-in-Ok c = search (starting, rules)

pub returns-in-Err : goal.returns-in-Err
returns-in-Err c = search (starting, rules)
