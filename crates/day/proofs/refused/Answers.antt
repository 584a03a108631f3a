use borrow.Author.Rules.{rules}
use Rattle.day.proofs.Turning.{turning}
use Rattle.std.proofs.Common.{rules}
use Rattle.day.proofs.refused.Goals as goal

pub returns-then-is_end-last : goal.returns-then-is_end-last
returns-then-is_end-last c = search (turning, rules)

pub returns : goal.returns
returns c = search (turning, rules)
