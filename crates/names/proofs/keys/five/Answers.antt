use Rattle.octets.specs.Number.{big_at}
use Rattle.names.specs.Code.Slots.{keys}
use Rattle.names.specs.Code.Numbers.{first_with}
use Rattle.names.proofs.Arms.{arms}
use Rattle.std.proofs.Common.{rules}
use Rattle.names.proofs.keys.five.Goals as goal

pub returns-then-y-eq105 : goal.returns-then-y-eq105
unfolding keys first_with big_at
returns-then-y-eq105 c = search (arms, rules)

pub returns-else-y-eq105 : goal.returns-else-y-eq105
unfolding keys first_with big_at
returns-else-y-eq105 c = search (arms, rules)

pub returns-then-y-eq108 : goal.returns-then-y-eq108
unfolding keys first_with big_at
returns-then-y-eq108 c = search (arms, rules)

pub returns-else-y-eq108 : goal.returns-else-y-eq108
unfolding keys first_with big_at
returns-else-y-eq108 c = search (arms, rules)

pub returns-then-y-eq105-2 : goal.returns-then-y-eq105-2
unfolding keys first_with big_at
returns-then-y-eq105-2 c = search (arms, rules)

pub returns-else-y-eq105-2 : goal.returns-else-y-eq105-2
unfolding keys first_with big_at
returns-else-y-eq105-2 c = search (arms, rules)

pub returns-then-y-eq105-3 : goal.returns-then-y-eq105-3
unfolding keys first_with big_at
returns-then-y-eq105-3 c = search (arms, rules)

pub returns-else-y-eq105-3 : goal.returns-else-y-eq105-3
unfolding keys first_with big_at
returns-else-y-eq105-3 c = search (arms, rules)

pub returns-then-y-eq114 : goal.returns-then-y-eq114
unfolding keys first_with big_at
returns-then-y-eq114 c = search (arms, rules)

pub returns-else-y-eq114 : goal.returns-else-y-eq114
unfolding keys first_with big_at
returns-else-y-eq114 c = search (arms, rules)

pub returns-then-y-eq107 : goal.returns-then-y-eq107
unfolding keys first_with big_at
returns-then-y-eq107 c = search (arms, rules)

pub returns-else-y-eq107 : goal.returns-else-y-eq107
unfolding keys first_with big_at
returns-else-y-eq107 c = search (arms, rules)

pub returns-then-y-eq100 : goal.returns-then-y-eq100
unfolding keys first_with big_at
returns-then-y-eq100 c = search (arms, rules)

pub returns-else-y-eq100 : goal.returns-else-y-eq100
unfolding keys first_with big_at
returns-else-y-eq100 c = search (arms, rules)

pub returns-in_default : goal.returns-in_default
unfolding keys first_with big_at
returns-in_default c = search (arms, rules)
