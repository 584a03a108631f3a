use Rattle.field.proofs.PutEntries.{entry_never, entry_byte, entry_behind, entry_next}
use Rattle.field.proofs.pieces.entries_into.Goals as goal

pub returns-in_default : goal.returns-in_default
returns-in_default c = entry_never _ _ _ _ _ _ _ _ c.loop-i.invariant c.loop-i-test.true _ c.array_into.ensures.room _ c.array_into.ensures.passed c.in_default.is

pub overflow_cast-out : goal.overflow_cast-out
overflow_cast-out c = entry_byte _ _ _ _ _ _ _ _ c.loop-i.invariant c.loop-i-test.true _ c.array_into.ensures.room _ c.array_into.ensures.passed _ c.in-Some.is

pub overflow_add-at : goal.overflow_add-at
overflow_add-at c = entry_behind _ _ _ _ _ _ _ _ c.loop-i.invariant c.loop-i-test.true _ c.array_into.ensures.room _ c.array_into.ensures.passed _ c.in-Some.is

pub loop-i-preserved : goal.loop-i-preserved
loop-i-preserved c = entry_next _ _ _ _ _ _ _ _ c.loop-i.invariant c.loop-i-test.true _ c.array_into.ensures.room _ c.array_into.ensures.passed _ c.in-Some.is
