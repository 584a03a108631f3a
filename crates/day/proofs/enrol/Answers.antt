use borrow.Author.Rules.{rules}
use Rattle.day.proofs.Enrolling.{enrolling}
use Rattle.std.proofs.Common.{rules}
use Rattle.day.proofs.enrol.Goals as goal

pub returns-then-bytes-lt-ENROLMENT-clause-shows : goal.returns-then-bytes-lt-ENROLMENT-clause-shows
returns-then-bytes-lt-ENROLMENT-clause-shows c = search (enrolling, rules)

pub returns-then-bytes-lt-ENROLMENT-clause-table : goal.returns-then-bytes-lt-ENROLMENT-clause-table
returns-then-bytes-lt-ENROLMENT-clause-table c = search (enrolling, rules)

pub returns-clause-shows : goal.returns-clause-shows
returns-clause-shows c = search (enrolling, rules)

pub returns-clause-table : goal.returns-clause-table
returns-clause-table c = search (enrolling, rules)
