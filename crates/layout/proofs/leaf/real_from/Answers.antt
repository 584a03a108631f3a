use Rattle.layout.proofs.Figures.{no_nan}
use borrow.Author.Rules.{rules}
use Rattle.layout.proofs.Figures.{nan_from}
use Rattle.std.proofs.Common.{rules}
use Rattle.layout.proofs.leaf.real_from.Goals as goal

pub returns-then-n-gt9218868437227405312 : goal.returns-then-n-gt9218868437227405312
returns-then-n-gt9218868437227405312 c = search (nan_from, rules)

pub float_from_bits-result : goal.float_from_bits-result
float_from_bits-result c = search (no_nan, rules)
