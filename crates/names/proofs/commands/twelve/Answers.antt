use Rattle.octets.specs.Number.{big_at}
use Rattle.names.specs.Names.{commands}
use Rattle.names.specs.Code.Numbers.{first_with}
use Rattle.names.proofs.Arms.{arms}
use Rattle.std.proofs.Common.{rules}
use Rattle.names.proofs.commands.twelve.Goals as goal

pub returns-then-x-eq7236233886632595829 : goal.returns-then-x-eq7236233886632595829
unfolding commands first_with big_at
returns-then-x-eq7236233886632595829 c = search (arms, rules)

pub returns-else-x-eq7236233886632595829 : goal.returns-else-x-eq7236233886632595829
unfolding commands first_with big_at
returns-else-x-eq7236233886632595829 c = search (arms, rules)

pub returns-then-x-eq7236233886632595829-2 : goal.returns-then-x-eq7236233886632595829-2
unfolding commands first_with big_at
returns-then-x-eq7236233886632595829-2 c = search (arms, rules)

pub returns-else-x-eq7236233886632595829-2 : goal.returns-else-x-eq7236233886632595829-2
unfolding commands first_with big_at
returns-else-x-eq7236233886632595829-2 c = search (arms, rules)

pub returns-in_default : goal.returns-in_default
unfolding commands first_with big_at
returns-in_default c = search (arms, rules)
