-- `named_at` meets its contract, by the laws of proofs/Naming. Assumes nothing.
use Rattle.notes.proofs.Opening.{length_fits}
use Rattle.notes.proofs.Naming.{number_lacking, named_known}
use borrow.Author.Rules.{rules}
use Rattle.std.proofs.Common.{rules}
use Rattle.notes.proofs.named_at.Goals as goal

pub overflow_add-n : goal.overflow_add-n
overflow_add-n c = search (length_fits, rules)

pub returns-then-s-from : goal.returns-then-s-from
returns-then-s-from c = search (number_lacking, rules)

pub returns-then-command-lt-COMMANDS : goal.returns-then-command-lt-COMMANDS
returns-then-command-lt-COMMANDS c = search (named_known, rules)
