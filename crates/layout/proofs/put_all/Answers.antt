use Rattle.layout.proofs.Putting.{put_fields}
use borrow.Author.Rules.{rules}
use Rattle.std.proofs.Common.{rules}
use Rattle.layout.proofs.put_all.Goals as goal

pub returns : goal.returns
returns c = search (put_fields, rules)
