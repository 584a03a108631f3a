use Rattle.octets.specs.Number.{big_at}
use Rattle.names.specs.Names.{commands}
use Rattle.names.specs.Code.Numbers.{first_with}
use Rattle.names.proofs.Arms.{arms}
use Rattle.std.proofs.Common.{rules}
use Rattle.names.proofs.commands.four.Goals as goal

pub returns-in-1885957735 : goal.returns-in-1885957735
unfolding commands first_with big_at
returns-in-1885957735 c = search (arms, rules)

pub returns-in_default : goal.returns-in_default
unfolding commands first_with big_at
returns-in_default c = search (arms, rules)
