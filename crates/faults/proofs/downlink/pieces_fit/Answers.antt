use borrow.Author.Rules.{rules}
use Rattle.faults.proofs.Lengths.{entries}
use Rattle.std.proofs.Common.{rules}
use Rattle.faults.proofs.downlink.pieces_fit.Goals as goal

pub returns-then-n-gt-MOST_ENTRIES : goal.returns-then-n-gt-MOST_ENTRIES
returns-then-n-gt-MOST_ENTRIES c = search (entries, rules)

pub returns-then-d-lt-PIECES : goal.returns-then-d-lt-PIECES
returns-then-d-lt-PIECES c = search (entries, rules)

pub returns : goal.returns
returns c = search (entries, rules)
