use Rattle.walk.proofs.Turns.{err_again}
use Rattle.notes.proofs.Turns.{key_room, place_fits, key_walk, key_places, value_walk, value_places, next_walk, next_places, done_walk, done_places}
use Rattle.notes.proofs.pass.pass.Goals as goal

pub returns-in_err-behind-clause-walk : goal.returns-in_err-behind-clause-walk
returns-in_err-behind-clause-walk c =
    err_again c.from_residual.result c.in_err-behind.field-0.0 c.from_residual.ensures
    (key_walk c.args.s.now _ _ c.args.n c.loop.counter c.loop.next.at c.loop.next.count c.loop.places c.loop.invariant.0 c.loop.invariant.1 c.loop-test.true c.key.result c.key.ensures
    c.in_err-behind.field-0.0 c.in_err-behind.was)

pub returns-in_err-behind-clause-places : goal.returns-in_err-behind-clause-places
returns-in_err-behind-clause-places c =
    key_places c.args.s.now _ _ c.args.n c.loop.counter c.loop.next.at c.loop.next.count c.loop.places c.loop.invariant.0 c.loop.invariant.1 c.loop-test.true c.key.result c.key.ensures
    c.in_err-behind.field-0.0 c.in_err-behind.was

pub returns-in_err-value-clause-walk : goal.returns-in_err-value-clause-walk
returns-in_err-value-clause-walk c =
    err_again c.from_residual-in_err-value.result c.in_err-value.field-0.0 c.from_residual-in_err-value.ensures
    (value_walk c.args.s.now _ _ c.args.n c.loop.counter c.loop.next.at c.loop.next.count c.loop.places c.loop.invariant.0 c.loop.invariant.1 c.loop-test.true c.key.result c.key.ensures
    c.in_ok-behind.behind c.in_ok-behind.was c.value.result c.value.ensures c.in_err-value.field-0.0 c.in_err-value.was)

pub returns-in_err-value-clause-places : goal.returns-in_err-value-clause-places
returns-in_err-value-clause-places c =
    value_places c.args.s.now _ _ c.args.n c.loop.counter c.loop.next.at c.loop.next.count c.loop.places c.loop.invariant.0 c.loop.invariant.1 c.loop-test.true c.key.result c.key.ensures
    c.in_ok-behind.behind c.in_ok-behind.was c.value.result c.value.ensures c.in_err-value.field-0.0 c.in_err-value.was

pub slot_at-slot-requires : goal.slot_at-slot-requires
slot_at-slot-requires c = key_room c.args.s.now c.loop.next.at c.loop.next.count c.key.result c.key.ensures c.in_ok-behind.behind c.in_ok-behind.was

pub overflow_cast-behind : goal.overflow_cast-behind
overflow_cast-behind c = place_fits c.args.s.now c.loop.next.at c.loop.next.count c.key.result c.key.ensures c.in_ok-behind.behind c.in_ok-behind.was c.requires

pub loop-preserved : goal.loop-preserved
loop-preserved c = (
  next_walk c.args.s.now _ _ c.args.n c.loop.counter c.loop.next.at c.loop.next.count c.loop.places c.loop.invariant.0 c.loop.invariant.1 c.loop-test.true c.key.result c.key.ensures
      c.in_ok-behind.behind c.in_ok-behind.was c.value.result c.value.ensures c.in_ok-value.value c.in_ok-value.was,
  next_places c.args.s.now _ _ c.args.n c.loop.counter c.loop.next.at c.loop.next.count c.loop.places c.loop.invariant.0 c.loop.invariant.1 c.loop-test.true c.key.result c.key.ensures
      c.in_ok-behind.behind c.in_ok-behind.was c.value.result c.value.ensures c.in_ok-value.value c.in_ok-value.was
      c.slot_at-slot.result c.note.result c.slot_at-slot.ensures.is c.note.ensures,
)

pub returns-clause-walk : goal.returns-clause-walk
returns-clause-walk c =
    done_walk c.args.s.now _ _ c.args.n c.loop.counter c.loop.next.at c.loop.next.count c.loop.places c.loop.invariant.0 c.loop.invariant.1 c.loop-test.false

pub returns-clause-places : goal.returns-clause-places
returns-clause-places c =
    done_places c.args.s.now _ _ c.args.n c.loop.counter c.loop.next.at c.loop.next.count c.loop.places c.loop.invariant.0 c.loop.invariant.1 c.loop-test.false
