use borrow.Author.Rules.{rules}
use Rattle.trace.proofs.Entries.{entries}
use Rattle.day.proofs.Recording.{recording}
use Rattle.std.proofs.Common.{rules}
use Rattle.day.proofs.turn.Goals as goal

pub returns : goal.returns
returns c = search (recording, entries, rules)
