use Rattle.layout.proofs.Typed.{backs}
use borrow.Author.Rules.{rules}
use Rattle.std.proofs.Common.{rules}
use Rattle.layout.proofs.put_message.Goals as goal

pub returns-then-image-eq-SIZE-clause-back : goal.returns-then-image-eq-SIZE-clause-back
returns-then-image-eq-SIZE-clause-back c = search (backs, rules)
