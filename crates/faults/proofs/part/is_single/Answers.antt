use borrow.Author.Rules.{rules}
use Rattle.faults.proofs.Reals.{singles}
use Rattle.std.proofs.Common.{rules}
use Rattle.faults.proofs.part.is_single.Goals as goal

pub returns-then-is_nan : goal.returns-then-is_nan
returns-then-is_nan c = search (singles, rules)

pub float_to_bits-x : goal.float_to_bits-x
float_to_bits-x c = search (singles, rules)

pub returns : goal.returns
returns c = search (singles, rules)
