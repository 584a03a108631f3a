use Rattle.field.proofs.Arrays.{array_there}
use Rattle.field.proofs.array.long_array.Goals as goal

pub returns-then-is_array : goal.returns-then-is_array
returns-then-is_array c = array_there _ _ c.opened_at-o.result c.opened_at-o.ensures.is c.opened_at-o.ensures.within _ c.is_array.ensures c.if-is_array.true
