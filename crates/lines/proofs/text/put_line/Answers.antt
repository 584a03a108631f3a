use Rattle.std.proofs.Common.{rules}
use Rattle.lines.proofs.Texts.{lined}
use Rattle.lines.proofs.text.put_line.Goals as goal

pub returns-in-Ok : goal.returns-in-Ok
returns-in-Ok c = search (lined, rules)

pub returns-in-Err : goal.returns-in-Err
returns-in-Err c = search (lined, rules)
