use borrow.Author.Rules.{rules}
use Rattle.faults.proofs.Lengths.{counts}
use Rattle.std.proofs.Common.{rules}
use Rattle.faults.proofs.downlink.counts_fit.Goals as goal

pub returns-then-depends : goal.returns-then-depends
returns-then-depends c = search (counts, rules)

pub returns-else-depends : goal.returns-else-depends
returns-else-depends c = search (counts, rules)
