use Rattle.octets.specs.Number.{big_at}
use Rattle.names.specs.Names.{commands}
use Rattle.names.specs.Code.Numbers.{first_with}
use Rattle.names.proofs.Arms.{arms}
use Rattle.std.proofs.Common.{rules}
use Rattle.names.proofs.commands.nine.Goals as goal

pub returns-then-y-eq112 : goal.returns-then-y-eq112
unfolding commands first_with big_at
returns-then-y-eq112 c = search (arms, rules)

pub returns-else-y-eq112 : goal.returns-else-y-eq112
unfolding commands first_with big_at
returns-else-y-eq112 c = search (arms, rules)

pub returns-then-y-eq112-2 : goal.returns-then-y-eq112-2
unfolding commands first_with big_at
returns-then-y-eq112-2 c = search (arms, rules)

pub returns-else-y-eq112-2 : goal.returns-else-y-eq112-2
unfolding commands first_with big_at
returns-else-y-eq112-2 c = search (arms, rules)

pub returns-then-y-eq112-3 : goal.returns-then-y-eq112-3
unfolding commands first_with big_at
returns-then-y-eq112-3 c = search (arms, rules)

pub returns-else-y-eq112-3 : goal.returns-else-y-eq112-3
unfolding commands first_with big_at
returns-else-y-eq112-3 c = search (arms, rules)

pub returns-then-y-eq112-4 : goal.returns-then-y-eq112-4
unfolding commands first_with big_at
returns-then-y-eq112-4 c = search (arms, rules)

pub returns-else-y-eq112-4 : goal.returns-else-y-eq112-4
unfolding commands first_with big_at
returns-else-y-eq112-4 c = search (arms, rules)

pub returns-then-y-eq112-5 : goal.returns-then-y-eq112-5
unfolding commands first_with big_at
returns-then-y-eq112-5 c = search (arms, rules)

pub returns-else-y-eq112-5 : goal.returns-else-y-eq112-5
unfolding commands first_with big_at
returns-else-y-eq112-5 c = search (arms, rules)

pub returns-then-y-eq112-6 : goal.returns-then-y-eq112-6
unfolding commands first_with big_at
returns-then-y-eq112-6 c = search (arms, rules)

pub returns-else-y-eq112-6 : goal.returns-else-y-eq112-6
unfolding commands first_with big_at
returns-else-y-eq112-6 c = search (arms, rules)

pub returns-then-y-eq112-7 : goal.returns-then-y-eq112-7
unfolding commands first_with big_at
returns-then-y-eq112-7 c = search (arms, rules)

pub returns-else-y-eq112-7 : goal.returns-else-y-eq112-7
unfolding commands first_with big_at
returns-else-y-eq112-7 c = search (arms, rules)

pub returns-then-y-eq112-8 : goal.returns-then-y-eq112-8
unfolding commands first_with big_at
returns-then-y-eq112-8 c = search (arms, rules)

pub returns-else-y-eq112-8 : goal.returns-else-y-eq112-8
unfolding commands first_with big_at
returns-else-y-eq112-8 c = search (arms, rules)

pub returns-then-y-eq101 : goal.returns-then-y-eq101
unfolding commands first_with big_at
returns-then-y-eq101 c = search (arms, rules)

pub returns-else-y-eq101 : goal.returns-else-y-eq101
unfolding commands first_with big_at
returns-else-y-eq101 c = search (arms, rules)

pub returns-in_default : goal.returns-in_default
unfolding commands first_with big_at
returns-in_default c = search (arms, rules)
