use Rattle.record.specs.Record.{body_in}
use Rattle.layout.proofs.Taking.{messages}
use borrow.Author.Rules.{rules}
use Rattle.std.proofs.Common.{rules}
use Rattle.layout.proofs.message_in.Goals as goal

pub returns-then-not-head : goal.returns-then-not-head
unfolding body_in
returns-then-not-head c = search (messages, rules)

pub returns-in-0 : goal.returns-in-0
unfolding body_in
returns-in-0 c = search (messages, rules)

pub returns-in-1 : goal.returns-in-1
unfolding body_in
returns-in-1 c = search (messages, rules)

pub returns-in-2 : goal.returns-in-2
unfolding body_in
returns-in-2 c = search (messages, rules)

pub returns-in-3 : goal.returns-in-3
unfolding body_in
returns-in-3 c = search (messages, rules)

pub returns-in-4 : goal.returns-in-4
unfolding body_in
returns-in-4 c = search (messages, rules)

pub returns-in-5 : goal.returns-in-5
unfolding body_in
returns-in-5 c = search (messages, rules)

pub returns-in-6 : goal.returns-in-6
unfolding body_in
returns-in-6 c = search (messages, rules)

pub returns-in-7 : goal.returns-in-7
unfolding body_in
returns-in-7 c = search (messages, rules)

pub returns-in-21 : goal.returns-in-21
unfolding body_in
returns-in-21 c = search (messages, rules)

pub returns : goal.returns
unfolding body_in
returns c = search (messages, rules)
