-- Where the read failed. Assumes nothing.
use borrow.Author.Rules.{rules}
use Rattle.hand.proofs.{Following.not_read, Streams.no_piece}
use Rattle.hand.proofs.Hand.refill.Goals as goal

pub returns-in_err-got-clause-held : goal.returns-in_err-got-clause-held
returns-in_err-got-clause-held g c = search (not_read, rules)

pub returns-in_err-got-clause-read : goal.returns-in_err-got-clause-read
returns-in_err-got-clause-read g c = search (no_piece, rules)
