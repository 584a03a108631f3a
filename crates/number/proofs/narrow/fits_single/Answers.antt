use borrow.Author.Rules.{rules}
use Rattle.number.proofs.Singles.{single_bits}
use Rattle.std.proofs.Common.{rules}
use Rattle.number.proofs.narrow.fits_single.Goals as goal

pub returns-then-field-gt1150 : goal.returns-then-field-gt1150
returns-then-field-gt1150 c = search (single_bits, rules)

pub returns-then-field-lt874 : goal.returns-then-field-lt874
returns-then-field-lt874 c = search (single_bits, rules)

pub returns : goal.returns
returns c = search (single_bits, rules)
