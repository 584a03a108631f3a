use Rattle.field.proofs.Arrays.{array_fix, array_two}
use Rattle.field.proofs.array.array_at.Goals as goal

pub returns-then-b-lt160 : goal.returns-then-b-lt160
returns-then-b-lt160 c = array_fix _ _ c.if-s-at.false c.if-b-lt144.false c.if-b-lt160.true

pub returns-then-is_there : goal.returns-then-is_there
returns-then-is_there c = array_two _ _ _ _ c.if-s-at.false c.if-b.true c.is_there.ensures c.if-is_there.true c.big_at.ensures.value
