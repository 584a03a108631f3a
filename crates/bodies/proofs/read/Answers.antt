-- Command, opId, and the fields behind them. Assumes nothing.
use borrow.Author.Rules.{rules}
use Rattle.std.proofs.Common.{rules}
use Rattle.bodies.proofs.Whole.{read_is}
use Rattle.bodies.proofs.read.Goals as goal

pub returns : goal.returns
returns c = search (read_is, rules)
