use borrow.Author.Rules.{rules}
use Rattle.faults.proofs.Chain.{chain}
use Rattle.std.proofs.Common.{rules}
use Rattle.faults.proofs.status_fault.Goals as goal

pub returns-then-not-is_lent : goal.returns-then-not-is_lent
returns-then-not-is_lent c = search (chain, rules) depth 9

pub returns-then-not-is_real : goal.returns-then-not-is_real
returns-then-not-is_real c = search (chain, rules) depth 9

pub returns-then-not-maybe_position : goal.returns-then-not-maybe_position
returns-then-not-maybe_position c = search (chain, rules) depth 9

pub returns-then-not-maybe_word : goal.returns-then-not-maybe_word
returns-then-not-maybe_word c = search (chain, rules) depth 9

pub returns-then-not-maybe_real : goal.returns-then-not-maybe_real
returns-then-not-maybe_real c = search (chain, rules) depth 9

pub returns-then-not-maybe_real-2 : goal.returns-then-not-maybe_real-2
returns-then-not-maybe_real-2 c = search (chain, rules) depth 9

pub returns-then-not-maybe_real-3 : goal.returns-then-not-maybe_real-3
returns-then-not-maybe_real-3 c = search (chain, rules) depth 9

pub returns : goal.returns
returns c = search (chain, rules) depth 9
