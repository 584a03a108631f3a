use native.Mathlib.Omega.{arith}
use Rattle.queue.specs.Queue.{has_id}
use Rattle.queue.proofs.Calling.{first_in, unknown, cancelled}
use Rattle.queue.proofs.cancel.Goals as goal

pub returns-in_default-place_of_id : goal.returns-in_default-place_of_id
returns-in_default-place_of_id c =
    let s = c.in-Some.ensures.cases in
    unknown c.args.q.now s.long _ s.same c.args.id _ c.place_of_id.ensures c.in_default-place_of_id.is

pub free-requires : goal.free-requires
free-requires c = first_in _ (has_id c.args.id) _ c.place_of_id.ensures c.in-Some-place_of_id.i c.in-Some-place_of_id.is

pub overflow_cast-result : goal.overflow_cast-result
overflow_cast-result c =
    let few = first_in _ (has_id c.args.id) _ c.place_of_id.ensures c.in-Some-place_of_id.i c.in-Some-place_of_id.is in
    record { fits = omega (arith, few) }

pub returns : goal.returns
returns c =
    let s = c.in-Some.ensures.cases in
    cancelled c.args.q.now s.long _ s.same c.args.id _ c.place_of_id.ensures c.in-Some-place_of_id.i _ c.in-Some-place_of_id.is c.free.ensures
