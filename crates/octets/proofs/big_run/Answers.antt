use Rattle.octets.proofs.Reading.{turns}
use Rattle.std.proofs.Common.{rules}
use Rattle.octets.proofs.big_run.Goals as goal

pub overflow_mul-x : goal.overflow_mul-x
overflow_mul-x c = search (turns, rules)
