-- The invariant: i counters are put, and those that are left stand from q on; i rises to n, so n - i falls. Assumes nothing.
use Rattle.field.proofs.PutCounters.{CountersLeft}
use Rattle.field.proofs.counters.put_counters.Given as goal

abbrev pub invariant-loop-i : goal.invariant-loop-i
invariant-loop-i l = CountersLeft l.s l.n l.from l.initial.out l.out l.q l.i
