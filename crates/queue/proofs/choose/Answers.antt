use Rattle.queue.proofs.Calling.{best_inside, chose}
use Rattle.queue.proofs.choose.Goals as goal

pub slot-requires : goal.slot-requires
slot-requires c = best_inside _ c.args.eui c.args.counter c.args.expected _ c.best.ensures c.in-Some-best.i c.in-Some-best.is

pub shown-shown-requires : goal.shown-shown-requires
shown-shown-requires c = best_inside _ c.args.eui c.args.counter c.args.expected _ c.best.ensures c.in-Some-best.i c.in-Some-best.is

pub free-requires : goal.free-requires
free-requires c = best_inside _ c.args.eui c.args.counter c.args.expected _ c.best.ensures c.in-Some-best.i c.in-Some-best.is

pub returns : goal.returns
returns c =
    let s = c.in-Some.ensures.cases in
    chose c.args.q.now s.long _ s.same c.args.eui c.args.counter c.args.expected _ c.best.ensures c.in-Some-best.i _ _ _ c.in-Some-best.is c.slot.ensures c.shown-shown.ensures c.free.ensures
