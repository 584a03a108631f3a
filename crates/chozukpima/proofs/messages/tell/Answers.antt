-- By `search`, which finds the call's numbers where `using` does not. Assumes nothing.
use Rattle.chozukpima.proofs.Kept.{keeps}
use borrow.Author.Rules.{rules}
use Rattle.std.proofs.Common.{rules}
use Rattle.chozukpima.proofs.messages.tell.Goals as goal

pub returns-in-Err-clause-fit : goal.returns-in-Err-clause-fit
returns-in-Err-clause-fit c = search (keeps, rules)
