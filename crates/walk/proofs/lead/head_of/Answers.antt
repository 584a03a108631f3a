use borrow.Author.Rules.{rules}
use Rattle.walk.proofs.Leads.{sayings}
use Rattle.std.proofs.Common.{rules}
use Rattle.walk.proofs.lead.head_of.Goals as goal

pub returns-in-196-to-198 : goal.returns-in-196-to-198
returns-in-196-to-198 c = search (sayings, rules)

pub returns-in-199-to-201 : goal.returns-in-199-to-201
returns-in-199-to-201 c = search (sayings, rules)

pub returns-in-217-to-219 : goal.returns-in-217-to-219
returns-in-217-to-219 c = search (sayings, rules)

pub returns-in-220-to-221 : goal.returns-in-220-to-221
returns-in-220-to-221 c = search (sayings, rules)

pub returns-in-222-to-223 : goal.returns-in-222-to-223
returns-in-222-to-223 c = search (sayings, rules)
