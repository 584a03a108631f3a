use borrow.Author.Rules.{rules}
use Rattle.forms.proofs.Decimals.{decimals}
use Rattle.std.proofs.Common.{rules}
use Rattle.forms.proofs.lead.+put_digits.Goals as goal

pub returns : goal.returns
returns t c = search (decimals, rules)
