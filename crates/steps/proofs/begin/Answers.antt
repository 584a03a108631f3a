use borrow.Author.Rules.{rules}
use Rattle.steps.proofs.Calling.{callings}
use Rattle.std.proofs.Common.{rules}
use Rattle.steps.proofs.begin.Goals as goal

pub returns-then-not-is_session : goal.returns-then-not-is_session
returns-then-not-is_session c = search (callings, rules)

pub bounds-d-344 : goal.bounds-d-344
bounds-d-344 c = search (callings, rules)

pub returns-then-d-ne-OPEN : goal.returns-then-d-ne-OPEN
returns-then-d-ne-OPEN c = search (callings, rules)

pub returns : goal.returns
returns c = search (callings, rules)
