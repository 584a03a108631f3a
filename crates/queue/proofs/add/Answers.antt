use Rattle.queue.proofs.Adding.{downlink}
use Rattle.queue.proofs.add.Goals as goal

pub returns-in-DlDataQue : goal.returns-in-DlDataQue
returns-in-DlDataQue c =
    let s = c.in-Some.ensures.cases in
    downlink c.args.q.now c.args.m c.args.d.now s.long _ s.same c.in-DlDataQue.x c.in-DlDataQue.is _ _ c.add_downlink.ensures
