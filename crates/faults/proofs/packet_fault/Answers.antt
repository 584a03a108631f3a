use borrow.Author.Rules.{rules}
use Rattle.faults.proofs.Chain.{chain}
use Rattle.std.proofs.Common.{rules}
use Rattle.faults.proofs.packet_fault.Goals as goal

pub returns-then-not-maybe_word : goal.returns-then-not-maybe_word
returns-then-not-maybe_word c = search (chain, rules) depth 9

pub returns-then-not-is_real : goal.returns-then-not-is_real
returns-then-not-is_real c = search (chain, rules) depth 9

pub returns-then-not-is_real-2 : goal.returns-then-not-is_real-2
returns-then-not-is_real-2 c = search (chain, rules) depth 9

pub returns-then-not-maybe_real : goal.returns-then-not-maybe_real
returns-then-not-maybe_real c = search (chain, rules) depth 9

pub returns-then-not-tail : goal.returns-then-not-tail
returns-then-not-tail c = search (chain, rules) depth 9

pub returns : goal.returns
returns c = search (chain, rules) depth 9
