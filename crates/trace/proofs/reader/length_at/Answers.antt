use Rattle.std.proofs.Common.{rules}
use Rattle.refusal.specs.declared.Refusal.{TheVariants.NotOneFrame}
use Rattle.groups.specs.Groups.{number_at}
use Rattle.trace.specs.Record.{is_frame_length, frame_at, length_at}
use Rattle.trace.proofs.Reading.{refused_step, passed_step, inside_length}
use Rattle.trace.proofs.reader.length_at.Goals as goal

pub returns-in_err-n : goal.returns-in_err-n
unfolding length_at
returns-in_err-n c = refused_step c.number_at.result (number_at c.args.s.now c.args.at) c.number_at.ensures is_frame_length (λ o. frame_at c.args.s.now c.args.gap c.args.station o.next o.value) NotOneFrame c.in_err-n.field-0.0 c.in_err-n.was c.from_residual.result c.from_residual.ensures.1

pub returns : goal.returns
unfolding length_at
returns c = passed_step c.number_at.result (number_at c.args.s.now c.args.at) c.number_at.ensures is_frame_length (λ o. frame_at c.args.s.now c.args.gap c.args.station o.next o.value) NotOneFrame c.in_ok-n.n c.in_ok-n.was (search (inside_length, rules)) c.frame_at.result c.frame_at.ensures
