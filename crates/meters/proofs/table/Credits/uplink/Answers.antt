use Rattle.std.proofs.lemmas.Result.{err_from_is_err_and}
use Rattle.std.proofs.Common.{refl}
use Rattle.meters.proofs.Laws.{is_table_lem, same_euis, row_within, last_within, heard_within, uplink_25, uplink_21, uplink_done}
use Rattle.meters.proofs.table.Credits.uplink.Goals as goal

pub returns-then-station-gt-MOST_STATION-clause-told : goal.returns-then-station-gt-MOST_STATION-clause-told
returns-then-station-gt-MOST_STATION-clause-told c =
    let even = is_table_lem _ _ c.shown-table.ensures _ c.is_even.ensures c.if-not-is_even.false in
    uplink_25 _ _ _ _ _ even _ _ _ c.if-station-gt-MOST_STATION.true

pub place-requires : goal.place-requires
place-requires c = same_euis _ _ c.shown-table.ensures _ c.is_even.ensures c.if-not-is_even.false

pub returns-in_err-i-clause-told : goal.returns-in_err-i-clause-told
returns-in_err-i-clause-told c =
    let even = is_table_lem _ _ c.shown-table.ensures _ c.is_even.ensures c.if-not-is_even.false in
    let p = err_from_is_err_and c.from_residual.result c.from_residual.ensures.1 in
    rw (p.1, p.2) (uplink_21 _ _ _ _ _ even _ c.shown-table.ensures _ _ c.place.ensures _ c.in_err-i.ensures.value _ _ c.if-station-gt-MOST_STATION.false)

pub row_at-row-requires : goal.row_at-row-requires
row_at-row-requires c =
    let even = is_table_lem _ _ refl _ c.is_even.ensures c.if-not-is_even.false in
    (even, row_within _ _ _ _ _ even _ refl _ _ c.place.ensures _ c.in_ok-i.ensures.value)

pub put_heard-requires : goal.put_heard-requires
put_heard-requires c =
    let even = is_table_lem _ _ c.shown-table.ensures _ c.is_even.ensures c.if-not-is_even.false in
    let last = last_within _ _ _ _ _ even _ c.shown-table.ensures _ _ c.place.ensures _ c.in_ok-i.ensures.value in
    (last, heard_within _ _ _ _ _ even _ c.shown-table.ensures _ _ c.place.ensures _ c.in_ok-i.ensures.value)

pub returns-clause-told : goal.returns-clause-told
returns-clause-told c =
    let even = is_table_lem _ _ c.shown-table.ensures _ c.is_even.ensures c.if-not-is_even.false in
    uplink_done _ _ _ _ _ even _ c.shown-table.ensures _ _ c.place.ensures _ c.in_ok-i.ensures.value _ _ c.if-station-gt-MOST_STATION.false _ _ _ c.row_at-row.ensures c.hear-told.ensures c.put_heard.ensures.put
