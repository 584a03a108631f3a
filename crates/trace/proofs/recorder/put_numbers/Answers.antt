use borrow.Author.Rules.{rules}
use Rattle.std.proofs.Common.{rules}
use Rattle.trace.proofs.Recording.{numbers}
use Rattle.trace.proofs.recorder.put_numbers.Goals as goal

pub returns-clause-there : goal.returns-clause-there
returns-clause-there c = search (numbers, rules)
