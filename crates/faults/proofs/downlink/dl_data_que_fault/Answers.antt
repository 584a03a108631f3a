use borrow.Author.Rules.{rules}
use Rattle.faults.proofs.Chain.{chain}
use Rattle.std.proofs.Common.{rules}
use Rattle.faults.proofs.downlink.dl_data_que_fault.Goals as goal

pub returns-then-not-counts_fit : goal.returns-then-not-counts_fit
returns-then-not-counts_fit c = search (chain, rules) depth 9

pub returns-then-not-pieces_fit : goal.returns-then-not-pieces_fit
returns-then-not-pieces_fit c = search (chain, rules) depth 9

pub returns-then-not-is_single : goal.returns-then-not-is_single
returns-then-not-is_single c = search (chain, rules) depth 9

pub returns-then-not-maybe_mark : goal.returns-then-not-maybe_mark
returns-then-not-maybe_mark c = search (chain, rules) depth 9

pub returns-then-not-maybe_mark-2 : goal.returns-then-not-maybe_mark-2
returns-then-not-maybe_mark-2 c = search (chain, rules) depth 9

pub returns-then-not-maybe_mark-3 : goal.returns-then-not-maybe_mark-3
returns-then-not-maybe_mark-3 c = search (chain, rules) depth 9

pub returns-then-not-maybe_mark-4 : goal.returns-then-not-maybe_mark-4
returns-then-not-maybe_mark-4 c = search (chain, rules) depth 9

pub returns : goal.returns
returns c = search (chain, rules) depth 9
