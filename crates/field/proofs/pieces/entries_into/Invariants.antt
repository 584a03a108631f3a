-- The invariant: i entries are put, and those that are left stand from q on; i rises to n, so n - i falls. Assumes nothing.
use Rattle.field.proofs.PutEntries.{EntriesLeft}
use Rattle.field.proofs.pieces.entries_into.Given as goal

abbrev pub invariant-loop-i : goal.invariant-loop-i
invariant-loop-i l = EntriesLeft l.s l.n l.from l.initial.out l.out l.q l.at l.i
