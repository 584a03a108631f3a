use Rattle.std.proofs.Common.{rules, refl, Ok, eqb}
use Rattle.refusal.specs.declared.Refusal.{TheVariants.NotATrace}
use Rattle.groups.specs.Groups.{number_at}
use Rattle.trace.specs.Record.{start_of}
use Rattle.trace.proofs.Reading.{refused_step, passed_step, one}
use Rattle.trace.proofs.reader.start.Goals as goal

pub returns-in_err-n : goal.returns-in_err-n
unfolding start_of
returns-in_err-n c = refused_step c.number_at.result (number_at c.args.s.now 0) c.number_at.ensures (λ v. eqb v 1) (λ o. Ok o) NotATrace c.in_err-n.field-0.0 c.in_err-n.was c.from_residual.result c.from_residual.ensures.1

pub returns : goal.returns
unfolding start_of
returns c = passed_step c.number_at.result (number_at c.args.s.now 0) c.number_at.ensures (λ v. eqb v 1) (λ o. Ok o) NotATrace c.in_ok-n.n c.in_ok-n.was (search (one, rules)) (Ok c.in_ok-n.n) refl
