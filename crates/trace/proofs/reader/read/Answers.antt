use Rattle.std.proofs.Common.{rules, ◌+◌}
use Rattle.refusal.specs.declared.Refusal.{TheVariants.TimeSum}
use Rattle.groups.specs.Groups.{number_at}
use Rattle.trace.specs.Record.{is_time, station_at, entry_of}
use Rattle.trace.proofs.Reading.{refused_step, passed_step, test_passed}
use Rattle.trace.proofs.reader.read.Goals as goal

pub returns-in_err-n : goal.returns-in_err-n
unfolding entry_of
returns-in_err-n c = refused_step c.number_at.result (number_at c.args.s.now 0) c.number_at.ensures (λ v. is_time (c.args.sum + v)) (λ o. station_at c.args.s.now o.value o.next) TimeSum c.in_err-n.field-0.0 c.in_err-n.was c.from_residual.result c.from_residual.ensures.1

pub returns : goal.returns
unfolding entry_of
returns c = passed_step c.number_at.result (number_at c.args.s.now 0) c.number_at.ensures (λ v. is_time (c.args.sum + v)) (λ o. station_at c.args.s.now o.value o.next) TimeSum c.in_ok-n.n c.in_ok-n.was (search (test_passed, rules)) c.station_at.result c.station_at.ensures
