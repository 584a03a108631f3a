use mathlib.Core.Path.{◌∙◌}
use borrow.Author.Rules.{rules}
use Rattle.play.proofs.Arriving.{arriving, arrival_accepted}
use Rattle.std.proofs.Common.{rules}
use Rattle.play.proofs.accepts.Goals as goal

pub returns-clause-session : goal.returns-clause-session
returns-clause-session c = search (arriving, rules)

pub returns-clause-accepted : goal.returns-clause-accepted
returns-clause-accepted c = c.is_ok.ensures.value ∙ arrival_accepted _ _ _ _ _ _ _ c.before_arrival.ensures c.arrive.ensures
