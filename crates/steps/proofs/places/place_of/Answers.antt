use borrow.Author.Rules.{rules}
use Rattle.steps.proofs.Searching.{id_room, kind_room, match_later}
use Rattle.steps.proofs.places.place_of.Goals as goal

pub id_at-requires : goal.id_at-requires
id_at-requires c = id_room _ _ _ _ c.requires.0 c.ids-ids.ensures.is (search rules)

pub bounds-d-kinds : goal.bounds-d-kinds
bounds-d-kinds c = kind_room _ _ _ _ c.requires.1 c.kinds-kinds.ensures.is (search rules)

pub loop-i-preserved : goal.loop-i-preserved
loop-i-preserved c = search (match_later, rules)
