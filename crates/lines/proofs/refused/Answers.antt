use borrow.Author.Rules.{rules}
use Rattle.lines.proofs.Turns.{shown}
use Rattle.std.proofs.Common.{rules}
use Rattle.lines.proofs.refused.Goals as goal

pub returns-then-waits : goal.returns-then-waits
returns-then-waits c = search (shown, rules)

pub returns-then-len-eq0 : goal.returns-then-len-eq0
returns-then-len-eq0 c = search (shown, rules)

pub returns-else-len-eq0 : goal.returns-else-len-eq0
returns-else-len-eq0 c = search (shown, rules)
