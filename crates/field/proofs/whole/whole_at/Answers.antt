-- A number that is there, in one, two, four and eight bytes behind its lead byte.
use Rattle.field.proofs.Numbers.{wide1, wide2, wide4, wide8}
use Rattle.field.proofs.whole.whole_at.Goals as goal

pub returns-in_ok-bits_at-in-204 : goal.returns-in_ok-bits_at-in-204
returns-in_ok-bits_at-in-204 c = wide1 _ _ _ _ c.bits_at.result c.if-s-at.false c.in-204.is c.bits_at.ensures.is _ c.in_ok-bits_at-in-204.was _ c.upto-in-204.ensures

pub returns-in_ok-bits_at-in-205 : goal.returns-in_ok-bits_at-in-205
returns-in_ok-bits_at-in-205 c = wide2 _ _ _ _ c.bits_at-in-205.result c.if-s-at.false c.in-205.is c.bits_at-in-205.ensures.is _ c.in_ok-bits_at-in-205.was _ c.upto-in-205.ensures

pub returns-in_ok-bits_at-in-206 : goal.returns-in_ok-bits_at-in-206
returns-in_ok-bits_at-in-206 c = wide4 _ _ _ _ c.bits_at-in-206.result c.if-s-at.false c.in-206.is c.bits_at-in-206.ensures.is _ c.in_ok-bits_at-in-206.was _ c.upto-in-206.ensures

pub returns-in_ok-bits_at-in-207 : goal.returns-in_ok-bits_at-in-207
returns-in_ok-bits_at-in-207 c = wide8 _ _ _ _ c.bits_at-in-207.result c.if-s-at.false c.in-207.is c.bits_at-in-207.ensures.is _ c.in_ok-bits_at-in-207.was _ c.upto-in-207.ensures
