-- The bytes stored are those of the new session, one part behind the other. Assumes nothing.
use Rattle.session.proofs.Judged.{sixteen_long}
use Rattle.steps.proofs.Storing.{state_in}
use borrow.Author.Rules.{rules}
use Rattle.steps.proofs.Storing.{anews}
use Rattle.std.proofs.Common.{rules}
use Rattle.steps.proofs.Storing.{own_room}
use Rattle.steps.proofs.stored.begin_anew.Goals as goal

pub put_sixteen-requires-2 : goal.put_sixteen-requires-2
put_sixteen-requires-2 c = own_room _ c.requires _ _ c.put_little.ensures _ c.clear.ensures _ _ c.put_sixteen.ensures

pub clear-requires : goal.clear-requires
clear-requires c = search (anews, rules)

pub put_sixteen-requires : goal.put_sixteen-requires
put_sixteen-requires c = search (anews, rules)

pub bounds-d-344 : goal.bounds-d-344
bounds-d-344 c = search (state_in, rules)

pub bounds-d-345 : goal.bounds-d-345
bounds-d-345 c = search (anews, rules)

pub returns : goal.returns
returns c = search (anews, sixteen_long, rules)
