use Rattle.layout.specs.Image.{laid}
use Rattle.layout.proofs.Putting.{downlink_put}
use borrow.Author.Rules.{rules}
use Rattle.std.proofs.Common.{rules}
use Rattle.layout.proofs.put_downlink.Goals as goal

pub returns : goal.returns
unfolding laid
returns c = search (downlink_put, rules)
