use Rattle.std.proofs.Common.{rules}
use Rattle.refusal.specs.declared.Refusal.{TheVariants.StationNumber}
use Rattle.groups.specs.Groups.{number_at}
use Rattle.trace.specs.Record.{is_station, length_at, station_at}
use Rattle.trace.proofs.Reading.{refused_step, passed_step, station_known}
use Rattle.trace.proofs.reader.station_at.Goals as goal

pub returns-in_err-n : goal.returns-in_err-n
unfolding station_at
returns-in_err-n c = refused_step c.number_at.result (number_at c.args.s.now c.args.at) c.number_at.ensures is_station (λ o. length_at c.args.s.now c.args.gap o.value o.next) StationNumber c.in_err-n.field-0.0 c.in_err-n.was c.from_residual.result c.from_residual.ensures.1

pub returns : goal.returns
unfolding station_at
returns c = passed_step c.number_at.result (number_at c.args.s.now c.args.at) c.number_at.ensures is_station (λ o. length_at c.args.s.now c.args.gap o.value o.next) StationNumber c.in_ok-n.n c.in_ok-n.was (search (station_known, rules)) c.length_at.result c.length_at.ensures
