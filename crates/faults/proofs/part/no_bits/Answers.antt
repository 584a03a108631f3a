use borrow.Author.Rules.{rules}
use Rattle.faults.proofs.Reals.{reals}
use Rattle.std.proofs.Common.{rules}
use Rattle.faults.proofs.part.no_bits.Goals as goal

pub returns-then-is_nan : goal.returns-then-is_nan
returns-then-is_nan c = search (reals, rules)

pub float_to_bits-result : goal.float_to_bits-result
float_to_bits-result c = search (reals, rules)
