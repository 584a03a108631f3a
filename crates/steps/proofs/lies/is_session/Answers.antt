use borrow.Author.Rules.{rules}
use Rattle.steps.proofs.Lying.{session_test}
use Rattle.steps.proofs.lies.is_session.Goals as goal

pub returns-then-d-eq-SIZE : goal.returns-then-d-eq-SIZE
returns-then-d-eq-SIZE c = search (session_test, rules)
