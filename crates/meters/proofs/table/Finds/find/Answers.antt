use Rattle.std.proofs.Common.{refl}
use Rattle.meters.proofs.Laws.{is_table_lem, same_euis, find_told}
use Rattle.meters.proofs.table.Finds.find.Goals as goal

pub place-requires : goal.place-requires
place-requires c = same_euis _ _ refl _ c.is_even.ensures c.if-not-is_even.false

pub returns : goal.returns
returns c =
    let even = is_table_lem _ _ refl _ c.is_even.ensures c.if-not-is_even.false in
    find_told _ _ _ _ _ even _ refl _ _ c.place.ensures _ c.ok_or.ensures.value
