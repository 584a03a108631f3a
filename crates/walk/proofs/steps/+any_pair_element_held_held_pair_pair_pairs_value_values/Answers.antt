use mathlib.Core.Bool.{true, false}
use mathlib.Core.Path.{◌∙◌}
use Rattle.walk.proofs.Turns.{err_again, pair_next, turns_next, turns_broken}
use Rattle.walk.proofs.steps.+any_pair_element_held_held_pair_pair_pairs_value_values.Goals as goal

pub any_pair-returns : goal.any_pair-returns
any_pair-returns t c =
    c.apart.ensures
    ∙ pair_next c.args.s.now c.args.left c.args.at c.args.count c.element.result c.element.ensures
    c.element-2.result c.in_ok-key.key c.in_ok-key.was c.element-2.ensures

pub pairs-returns-in_err-next : goal.pairs-returns-in_err-next
pairs-returns-in_err-next t c =
    err_again c.from_residual.result c.in_err-next.field-0.0 c.from_residual.ensures
    (turns_broken c.args.s.now c.args.left true _ c.args.n c.loop.counter c.loop.next.at c.loop.next.count c.loop.invariant c.loop-test.true
    c.pair.result c.pair.ensures c.in_err-next.field-0.0 c.in_err-next.was)

pub pairs-loop-preserved : goal.pairs-loop-preserved
pairs-loop-preserved t c =
    turns_next c.args.s.now c.args.left true _ c.args.n c.loop.counter c.loop.next.at c.loop.next.count c.loop.invariant c.loop-test.true
    c.pair.result c.pair.ensures c.in_ok-next.next c.in_ok-next.was

pub values-returns-in_err-next : goal.values-returns-in_err-next
values-returns-in_err-next t c =
    err_again c.from_residual.result c.in_err-next.field-0.0 c.from_residual.ensures
    (turns_broken c.args.s.now c.args.left false _ c.args.n c.loop.counter c.loop.next.at c.loop.next.count c.loop.invariant c.loop-test.true
    c.value.result c.value.ensures c.in_err-next.field-0.0 c.in_err-next.was)

pub values-loop-preserved : goal.values-loop-preserved
values-loop-preserved t c =
    turns_next c.args.s.now c.args.left false _ c.args.n c.loop.counter c.loop.next.at c.loop.next.count c.loop.invariant c.loop-test.true
    c.value.result c.value.ensures c.in_ok-next.next c.in_ok-next.was
