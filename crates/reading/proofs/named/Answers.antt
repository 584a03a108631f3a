-- `named` meets its contract, by a law of proofs/Answers. Assumes nothing.
use Rattle.reading.proofs.Answers.{named_refused}
use borrow.Author.Rules.{rules}
use Rattle.std.proofs.Common.{rules}
use Rattle.reading.proofs.named.Goals as goal

pub returns-in-Err : goal.returns-in-Err
returns-in-Err c = search (named_refused, rules)
