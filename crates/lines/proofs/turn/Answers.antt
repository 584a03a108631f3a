use Rattle.lines.proofs.Turns.{turned}
use borrow.Author.Rules.{rules}
use Rattle.std.proofs.Common.{rules}
use Rattle.lines.proofs.turn.Goals as goal

pub returns-then-used-eq0 : goal.returns-then-used-eq0
returns-then-used-eq0 c = search (turned, rules)

pub returns : goal.returns
returns c = search (turned, rules)
