use Rattle.std.proofs.lemmas.Result.{err_from_is_err_and}
use Rattle.meters.proofs.Laws.{is_table_lem, same_euis, enrol_22, absent, enrol_23, free_within, enrol_done}
use Rattle.meters.proofs.table.Enrols.enrol.Goals as goal

pub place-requires : goal.place-requires
place-requires c = same_euis _ _ c.shown-table.ensures _ c.is_even.ensures c.if-not-is_even.false

pub returns-then-is_some-clause-told : goal.returns-then-is_some-clause-told
returns-then-is_some-clause-told c =
    let even = is_table_lem _ _ c.shown-table.ensures _ c.is_even.ensures c.if-not-is_even.false in
    enrol_22 _ _ _ _ _ even _ c.shown-table.ensures _ _ c.place.ensures _ c.is_some.ensures c.if-is_some.true _ _

pub returns-in_err-i-clause-told : goal.returns-in_err-i-clause-told
returns-in_err-i-clause-told c =
    let even = is_table_lem _ _ c.shown-table.ensures _ c.is_even.ensures c.if-not-is_even.false in
    let none = absent _ _ _ _ _ even _ c.shown-table.ensures _ _ c.place.ensures _ c.is_some.ensures c.if-is_some.false in
    let p = err_from_is_err_and c.from_residual.result c.from_residual.ensures.1 in
    rw (p.1, p.2) (enrol_23 _ _ _ _ _ even _ c.shown-table.ensures _ _ c.place.ensures none _ _ _ c.free_place.ensures _ c.in_err-i.ensures.value)

pub put-requires : goal.put-requires
put-requires c =
    let even = is_table_lem _ _ c.shown-table.ensures _ c.is_even.ensures c.if-not-is_even.false in
    let none = absent _ _ _ _ _ even _ c.shown-table.ensures _ _ c.place.ensures _ c.is_some.ensures c.if-is_some.false in
    (even, free_within _ _ _ _ _ even _ c.shown-table.ensures _ _ c.place.ensures none c.args.short c.args.counter _ c.free_place.ensures _ c.in_ok-i.ensures.value)

pub returns-clause-told : goal.returns-clause-told
returns-clause-told c =
    let even = is_table_lem _ _ c.shown-table.ensures _ c.is_even.ensures c.if-not-is_even.false in
    let none = absent _ _ _ _ _ even _ c.shown-table.ensures _ _ c.place.ensures _ c.is_some.ensures c.if-is_some.false in
    enrol_done _ _ _ _ _ even _ c.shown-table.ensures _ _ c.place.ensures none _ _ _ c.free_place.ensures _ c.in_ok-i.ensures.value _ c.put.ensures.put
