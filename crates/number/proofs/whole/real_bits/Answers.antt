use borrow.Author.Rules.{rules}
use Rattle.number.proofs.Wholes.{exact_bits}
use Rattle.std.proofs.Common.{rules}
use Rattle.number.proofs.whole.real_bits.Goals as goal

pub returns-then-n-eq0 : goal.returns-then-n-eq0
returns-then-n-eq0 c = search (exact_bits, rules)

pub returns : goal.returns
returns c = search (exact_bits, rules)
