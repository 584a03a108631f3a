use borrow.Author.Rules.{rules}
use Rattle.faults.proofs.Lengths.{lengths}
use Rattle.std.proofs.Common.{rules}
use Rattle.faults.proofs.downlink.lengths_fit.Goals as goal

pub returns-then-size-gt-MOST_PIECE : goal.returns-then-size-gt-MOST_PIECE
returns-then-size-gt-MOST_PIECE c = search (lengths, rules)

pub loop-i-preserved : goal.loop-i-preserved
loop-i-preserved c = search (lengths, rules)

pub returns : goal.returns
returns c = search (lengths, rules)
