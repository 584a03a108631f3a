-- By the Result that is read and by whether the session accepts it; `search` gives up at its limits. Assumes nothing.
use mathlib.Core.Path.{refl}
use Rattle.play.proofs.Playing.{unread_plays, refused_plays, accepted_plays}
use Rattle.play.proofs.play.Goals as goal

pub returns-in_default-clause-plays : goal.returns-in_default-clause-plays
returns-in_default-clause-plays c = unread_plays _ _ _ _ _ c.read.result c.read.ensures c.in_default.field-0 c.in_default.is _ refl

pub returns-then-not-accepts-clause-plays : goal.returns-then-not-accepts-clause-plays
returns-then-not-accepts-clause-plays c =
    refused_plays _ _ _ _ _ c.read.result c.read.ensures c.in-Ok.counted c.in-Ok.is c.accepts.result _ c.accepts.ensures.session c.accepts.ensures.accepted c.if-not-accepts.true _ refl

pub returns-clause-plays : goal.returns-clause-plays
returns-clause-plays c =
    accepted_plays _ _ _ _ _ c.read.result c.read.ensures c.in-Ok.counted c.in-Ok.is c.accepts.result _ c.accepts.ensures.session c.accepts.ensures.accepted c.if-not-accepts.false _ _ c.to_table.ensures.table
