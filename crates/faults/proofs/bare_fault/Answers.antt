use borrow.Author.Rules.{rules}
use Rattle.faults.proofs.Chain.{chain}
use Rattle.std.proofs.Common.{rules}
use Rattle.faults.proofs.bare_fault.Goals as goal

pub returns-then-not-bare : goal.returns-then-not-bare
returns-then-not-bare c = search (chain, rules)

pub returns : goal.returns
returns c = search (chain, rules)
