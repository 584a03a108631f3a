use Rattle.std.proofs.Common.{rules}
use Rattle.reading.proofs.Lending.{firsts}
use Rattle.reading.proofs.put_first.Goals as goal

pub returns : goal.returns
returns c = search (firsts, rules)
