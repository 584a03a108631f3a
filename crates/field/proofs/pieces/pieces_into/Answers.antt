use Rattle.field.proofs.Downlinks.{entries_there, entries_put_lem}
use Rattle.field.proofs.pieces.pieces_into.Goals as goal

pub entries_into-requires : goal.entries_into-requires
entries_into-requires c = (entries_there _ _ _ c.requires.0 _ c.array_at.ensures c.if-n-gt0.true _ c.in-Some.is, c.requires.1)

pub returns-in-Some : goal.returns-in-Some
returns-in-Some c = entries_put_lem _ _ _ c.requires.0 _ c.array_at.ensures c.if-n-gt0.true _ c.in-Some.is _ _ c.entries_into.ensures
