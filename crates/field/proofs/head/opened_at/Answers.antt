use borrow.Author.Rules.{rules}
use Rattle.field.proofs.Heads.{openings}
use Rattle.std.proofs.Common.{rules}
use Rattle.field.proofs.head.opened_at.Goals as goal

pub overflow_add-result-3 : goal.overflow_add-result-3
overflow_add-result-3 c = search (openings, rules)
