use borrow.Author.Rules.{rules}
use Rattle.std.proofs.Common.{rules}
use Rattle.notes.proofs.Opening.{length_fits, maps}
use Rattle.notes.proofs.opened_map.Goals as goal

pub overflow_add-n : goal.overflow_add-n
overflow_add-n c = search (length_fits, rules)

pub returns : goal.returns
returns c = search (maps, rules)
