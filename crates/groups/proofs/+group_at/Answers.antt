use Rattle.groups.proofs.Reading.{at_refused, at_more}
use Rattle.groups.proofs.+group_at.Goals as goal

pub returns-in_err-others : goal.returns-in_err-others
returns-in_err-others t c = at_refused c.args.s.now c.args.at c.if-s-at.false c.group_at.result c.args.more c.in_err-others.field-0.0 c.if-more-eq0.false c.if-b-lt-HIGH.false c.group_at.ensures c.in_err-others.was c.from_residual.result c.from_residual.ensures.1

pub returns : goal.returns
returns t c = at_more c.args.s.now c.args.at c.if-s-at.false c.group_at.result c.args.more c.in_ok-others.others c.if-more-eq0.false c.if-b-lt-HIGH.false c.group_at.ensures c.in_ok-others.was c.behind.result c.behind.ensures
