use borrow.Author.Rules.{rules}
use Rattle.steps.proofs.Searching.{id_room}
use Rattle.steps.proofs.places.free_place.Goals as goal

pub id_at-requires : goal.id_at-requires
id_at-requires c = id_room _ _ _ _ c.requires c.ids-ids.ensures.is (search rules)
