use borrow.Author.Rules.{rules}
use Rattle.steps.proofs.Calling.{states}
use Rattle.steps.proofs.Storing.{long}
use Rattle.std.proofs.Common.{rules}
use Rattle.steps.proofs.in_state.Goals as goal

pub bounds-d-344 : goal.bounds-d-344
bounds-d-344 c = search (states, long, rules)

pub returns-then-state-eq-WAITING : goal.returns-then-state-eq-WAITING
returns-then-state-eq-WAITING c = search (states, long, rules)

pub returns-then-state-eq-OPEN : goal.returns-then-state-eq-OPEN
returns-then-state-eq-OPEN c = search (states, long, rules)

pub returns : goal.returns
returns c = search (states, long, rules)
