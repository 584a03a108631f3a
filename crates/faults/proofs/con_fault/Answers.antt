use borrow.Author.Rules.{rules}
use Rattle.faults.proofs.Chain.{chain}
use Rattle.std.proofs.Common.{rules}
use Rattle.faults.proofs.con_fault.Goals as goal

pub returns-then-not-x : goal.returns-then-not-x
returns-then-not-x c = search (chain, rules)

pub returns-then-not-maybe_position : goal.returns-then-not-maybe_position
returns-then-not-maybe_position c = search (chain, rules)

pub returns-then-not-station_id : goal.returns-then-not-station_id
returns-then-not-station_id c = search (chain, rules)

pub returns-then-not-centre_id : goal.returns-then-not-centre_id
returns-then-not-centre_id c = search (chain, rules)

pub returns : goal.returns
returns c = search (chain, rules)
