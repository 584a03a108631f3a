use Rattle.reading.proofs.Answers.{stepped_broken}
use Rattle.reading.proofs.stepped.Goals as goal

pub returns-in_err-at : goal.returns-in_err-at
returns-in_err-at c =
    stepped_broken c.args.s.now c.args.places.now c.args.d.now c.args.step c.from_residual.result c.in_err-at.field-0.0 c.in_err-at.was c.from_residual.ensures.1
