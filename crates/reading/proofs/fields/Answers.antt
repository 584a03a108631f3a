use Rattle.std.proofs.Common.{rules}
use Rattle.reading.proofs.Answers.{ways}
use Rattle.reading.proofs.fields.Goals as goal

pub returns-then-g-ne0 : goal.returns-then-g-ne0
returns-then-g-ne0 c = search (ways, rules)

pub lend-requires : goal.lend-requires
lend-requires c = search (ways, rules)

pub returns : goal.returns
returns c = search (ways, rules)
