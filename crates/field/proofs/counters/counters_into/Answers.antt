use Rattle.field.proofs.Downlinks.{told_there, told_put, told_never}
use Rattle.field.proofs.counters.counters_into.Goals as goal

pub put_counters-requires : goal.put_counters-requires
put_counters-requires c = (told_there _ _ _ c.counters_cell.ensures _ c.in-Ok.is _ c.array_at.ensures _ c.in-Some.is, c.requires)

pub returns-in-Some : goal.returns-in-Some
returns-in-Some c = told_put _ _ _ c.counters_cell.ensures _ c.in-Ok.is _ c.array_at.ensures _ c.in-Some.is _ _ c.put_counters.ensures

pub returns-in_default-array_at : goal.returns-in_default-array_at
returns-in_default-array_at c = told_never _ _ _ c.counters_cell.ensures _ c.in-Ok.is _ c.array_at.ensures c.in_default-array_at.is _
