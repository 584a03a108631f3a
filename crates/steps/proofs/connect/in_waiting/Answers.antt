use borrow.Author.Rules.{rules}
use Rattle.steps.proofs.Opening.{waiting_con, waiting_other, others}
use Rattle.std.proofs.Common.{rules}
use Rattle.steps.proofs.connect.in_waiting.Goals as goal

pub returns-in-Con : goal.returns-in-Con
returns-in-Con c = search (waiting_con, rules)

pub returns-in_default : goal.returns-in_default
returns-in_default c = search (waiting_other, others, rules)
