use Rattle.std.proofs.lemmas.Result.{err_from_is_err_and}
use Rattle.meters.proofs.Laws.{withdraw_refused, withdraw_within, withdraw_done}
use Rattle.meters.proofs.table.Withdraws.withdraw.Goals as goal

pub returns-in_err-i-clause-told : goal.returns-in_err-i-clause-told
returns-in_err-i-clause-told c =
    let p = err_from_is_err_and c.from_residual.result c.from_residual.ensures.1 in
    rw (p.1, p.2) (withdraw_refused _ _ _ _ _ _ c.shown.ensures _ _ c.find.ensures _ c.in_err-i.was)

pub bounds-self-i : goal.bounds-self-i
bounds-self-i c = withdraw_within _ _ _ _ _ _ c.shown.ensures _ _ c.find.ensures _ c.in_ok-i.was

pub returns-clause-told : goal.returns-clause-told
returns-clause-told c = withdraw_done _ _ _ _ _ _ c.shown.ensures _ _ c.find.ensures _ c.in_ok-i.was
