-- While waiting nothing changes; else the state and the mark are stored. Assumes nothing.
use Rattle.std.proofs.Common.{rules, ap, not, refl}
use Rattle.steps.proofs.{Losing.lost_waiting, Losing.lost_stored, Calling.callings}
use Rattle.steps.proofs.lose.Goals as goal

pub bounds-d-344 : goal.bounds-d-344
bounds-d-344 c = search (callings, rules)

pub bounds-d-345 : goal.bounds-d-345
bounds-d-345 c = search (callings, rules)

pub returns-then-d-eq-WAITING : goal.returns-then-d-eq-WAITING
returns-then-d-eq-WAITING c =
    lost_waiting _ _ c.is_session.ensures _ (ap not c.if-not-is_session.false) c.type_inv.d c.if-d-eq-WAITING.true refl

pub returns : goal.returns
returns c = lost_stored _ _ c.is_session.ensures _ (ap not c.if-not-is_session.false) (search rules) c.if-d-eq-WAITING.false refl
