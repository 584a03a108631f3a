use borrow.Author.Rules.{rules}
use Rattle.faults.proofs.Chain.{chain}
use Rattle.std.proofs.Common.{rules}
use Rattle.faults.proofs.con_rsp_fault.Goals as goal

pub returns-then-not-maybe_version : goal.returns-then-not-maybe_version
returns-then-not-maybe_version c = search (chain, rules)

pub returns : goal.returns
returns c = search (chain, rules)
