use Rattle.octets.specs.Number.{big_at}
use Rattle.names.specs.Code.Slots.{keys}
use Rattle.names.specs.Code.Numbers.{first_with}
use Rattle.names.proofs.Arms.{arms}
use Rattle.std.proofs.Common.{rules}
use Rattle.names.proofs.keys.six.Goals as goal

pub returns-then-y-eq28530 : goal.returns-then-y-eq28530
unfolding keys first_with big_at
returns-then-y-eq28530 c = search (arms, rules)

pub returns-else-y-eq28530 : goal.returns-else-y-eq28530
unfolding keys first_with big_at
returns-else-y-eq28530 c = search (arms, rules)

pub returns-then-y-eq28005 : goal.returns-then-y-eq28005
unfolding keys first_with big_at
returns-then-y-eq28005 c = search (arms, rules)

pub returns-else-y-eq28005 : goal.returns-else-y-eq28005
unfolding keys first_with big_at
returns-else-y-eq28005 c = search (arms, rules)

pub returns-then-y-eq26983 : goal.returns-then-y-eq26983
unfolding keys first_with big_at
returns-then-y-eq26983 c = search (arms, rules)

pub returns-else-y-eq26983 : goal.returns-else-y-eq26983
unfolding keys first_with big_at
returns-else-y-eq26983 c = search (arms, rules)

pub returns-then-y-eq28005-2 : goal.returns-then-y-eq28005-2
unfolding keys first_with big_at
returns-then-y-eq28005-2 c = search (arms, rules)

pub returns-else-y-eq28005-2 : goal.returns-else-y-eq28005-2
unfolding keys first_with big_at
returns-else-y-eq28005-2 c = search (arms, rules)

pub returns-then-y-eq25714 : goal.returns-then-y-eq25714
unfolding keys first_with big_at
returns-then-y-eq25714 c = search (arms, rules)

pub returns-else-y-eq25714 : goal.returns-else-y-eq25714
unfolding keys first_with big_at
returns-else-y-eq25714 c = search (arms, rules)

pub returns-then-y-eq24948 : goal.returns-then-y-eq24948
unfolding keys first_with big_at
returns-then-y-eq24948 c = search (arms, rules)

pub returns-else-y-eq24948 : goal.returns-else-y-eq24948
unfolding keys first_with big_at
returns-else-y-eq24948 c = search (arms, rules)

pub returns-then-y-eq25966 : goal.returns-then-y-eq25966
unfolding keys first_with big_at
returns-then-y-eq25966 c = search (arms, rules)

pub returns-else-y-eq25966 : goal.returns-else-y-eq25966
unfolding keys first_with big_at
returns-else-y-eq25966 c = search (arms, rules)

pub returns-in_default : goal.returns-in_default
unfolding keys first_with big_at
returns-in_default c = search (arms, rules)
