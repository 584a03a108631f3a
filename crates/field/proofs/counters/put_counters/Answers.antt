use Rattle.field.proofs.PutCounters.{left_next}
use Rattle.field.proofs.counters.put_counters.Goals as goal

pub loop-i-preserved : goal.loop-i-preserved
loop-i-preserved c = left_next _ _ _ _ _ _ _ c.loop-i.invariant _ _ _ _ c.loop-i-test.true c.whole_at.ensures c.in-Some.is c.number_end-q.ensures c.put_little.ensures
