use borrow.Author.Rules.{rules}
use Rattle.day.proofs.Enrolling.{enrolling_meter}
use Rattle.std.proofs.Common.{rules}
use Rattle.day.proofs.enrol_meter.Goals as goal

pub returns-in-Ok-clause-shows : goal.returns-in-Ok-clause-shows
returns-in-Ok-clause-shows c = search (enrolling_meter, rules)

pub returns-in-Ok-clause-table : goal.returns-in-Ok-clause-table
returns-in-Ok-clause-table c = search (enrolling_meter, rules)

pub returns-in-Err-clause-shows : goal.returns-in-Err-clause-shows
returns-in-Err-clause-shows c = search (enrolling_meter, rules)

pub returns-in-Err-clause-table : goal.returns-in-Err-clause-table
returns-in-Err-clause-table c = search (enrolling_meter, rules)
