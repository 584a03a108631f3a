use Rattle.octets.specs.Number.{big_at}
use Rattle.names.specs.Names.{commands}
use Rattle.names.specs.Code.Numbers.{first_with}
use Rattle.names.proofs.Arms.{arms}
use Rattle.std.proofs.Common.{rules}
use Rattle.names.proofs.commands.six.Goals as goal

pub returns-then-y-eq29552 : goal.returns-then-y-eq29552
unfolding commands first_with big_at
returns-then-y-eq29552 c = search (arms, rules)

pub returns-else-y-eq29552 : goal.returns-else-y-eq29552
unfolding commands first_with big_at
returns-else-y-eq29552 c = search (arms, rules)

pub returns-then-y-eq29552-2 : goal.returns-then-y-eq29552-2
unfolding commands first_with big_at
returns-then-y-eq29552-2 c = search (arms, rules)

pub returns-else-y-eq29552-2 : goal.returns-else-y-eq29552-2
unfolding commands first_with big_at
returns-else-y-eq29552-2 c = search (arms, rules)

pub returns-then-y-eq29296 : goal.returns-then-y-eq29296
unfolding commands first_with big_at
returns-then-y-eq29296 c = search (arms, rules)

pub returns-else-y-eq29296 : goal.returns-else-y-eq29296
unfolding commands first_with big_at
returns-else-y-eq29296 c = search (arms, rules)

pub returns-then-y-eq29296-2 : goal.returns-then-y-eq29296-2
unfolding commands first_with big_at
returns-then-y-eq29296-2 c = search (arms, rules)

pub returns-else-y-eq29296-2 : goal.returns-else-y-eq29296-2
unfolding commands first_with big_at
returns-else-y-eq29296-2 c = search (arms, rules)

pub returns-then-y-eq29793 : goal.returns-then-y-eq29793
unfolding commands first_with big_at
returns-then-y-eq29793 c = search (arms, rules)

pub returns-else-y-eq29793 : goal.returns-else-y-eq29793
unfolding commands first_with big_at
returns-else-y-eq29793 c = search (arms, rules)

pub returns-then-y-eq28016 : goal.returns-then-y-eq28016
unfolding commands first_with big_at
returns-then-y-eq28016 c = search (arms, rules)

pub returns-else-y-eq28016 : goal.returns-else-y-eq28016
unfolding commands first_with big_at
returns-else-y-eq28016 c = search (arms, rules)

pub returns-then-y-eq30067 : goal.returns-then-y-eq30067
unfolding commands first_with big_at
returns-then-y-eq30067 c = search (arms, rules)

pub returns-else-y-eq30067 : goal.returns-else-y-eq30067
unfolding commands first_with big_at
returns-else-y-eq30067 c = search (arms, rules)

pub returns-then-y-eq28016-2 : goal.returns-then-y-eq28016-2
unfolding commands first_with big_at
returns-then-y-eq28016-2 c = search (arms, rules)

pub returns-else-y-eq28016-2 : goal.returns-else-y-eq28016-2
unfolding commands first_with big_at
returns-else-y-eq28016-2 c = search (arms, rules)

pub returns-in_default : goal.returns-in_default
unfolding commands first_with big_at
returns-in_default c = search (arms, rules)
