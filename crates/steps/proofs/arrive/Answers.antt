-- 15 for the bytes, for what the host lent and for the record, then the state's rule. Assumes nothing.
use borrow.Author.Rules.{rules}
use Rattle.steps.proofs.Calling.{callings, told_lies}
use Rattle.steps.proofs.arrive.Goals as goal

pub in_state-requires : goal.in_state-requires
in_state-requires c = (search (told_lies, rules), search (callings, rules), search (callings, rules))

pub returns-then-not-is_session : goal.returns-then-not-is_session
returns-then-not-is_session c = search (callings, rules)

pub returns-then-uuid-sign : goal.returns-then-uuid-sign
returns-then-uuid-sign c = search (callings, rules)

pub returns-then-fault-ne0 : goal.returns-then-fault-ne0
returns-then-fault-ne0 c = search (callings, rules)

pub returns : goal.returns
returns c = search (callings, rules)
