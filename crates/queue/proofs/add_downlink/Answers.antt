use borrow.Author.Rules.{rules}
use Rattle.queue.proofs.{Calling.first_in, Adding.data_lent}
use Rattle.std.proofs.Common.{rules}
use Rattle.queue.proofs.add_downlink.Goals as goal

pub put_entry-requires : goal.put_entry-requires
put_entry-requires c = search (first_in, data_lent, rules)
