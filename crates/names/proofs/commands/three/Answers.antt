use Rattle.octets.specs.Number.{big_at}
use Rattle.names.specs.Names.{commands}
use Rattle.names.specs.Code.Numbers.{first_with}
use Rattle.names.proofs.Arms.{arms}
use Rattle.std.proofs.Common.{rules}
use Rattle.names.proofs.commands.three.Goals as goal

pub returns-then-y-eq110 : goal.returns-then-y-eq110
unfolding commands first_with big_at
returns-then-y-eq110 c = search (arms, rules)

pub returns-else-y-eq110 : goal.returns-else-y-eq110
unfolding commands first_with big_at
returns-else-y-eq110 c = search (arms, rules)

pub returns-then-y-eq116 : goal.returns-then-y-eq116
unfolding commands first_with big_at
returns-then-y-eq116 c = search (arms, rules)

pub returns-else-y-eq116 : goal.returns-else-y-eq116
unfolding commands first_with big_at
returns-else-y-eq116 c = search (arms, rules)

pub returns-in_default : goal.returns-in_default
unfolding commands first_with big_at
returns-in_default c = search (arms, rules)
