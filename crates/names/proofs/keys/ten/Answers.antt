use Rattle.octets.specs.Number.{big_at}
use Rattle.names.specs.Code.Slots.{keys}
use Rattle.names.specs.Code.Numbers.{first_with}
use Rattle.names.proofs.Arms.{arms}
use Rattle.std.proofs.Common.{rules}
use Rattle.names.proofs.keys.ten.Goals as goal

pub returns-then-y-eq28526 : goal.returns-then-y-eq28526
unfolding keys first_with big_at
returns-then-y-eq28526 c = search (arms, rules)

pub returns-else-y-eq28526 : goal.returns-else-y-eq28526
unfolding keys first_with big_at
returns-else-y-eq28526 c = search (arms, rules)

pub returns-then-y-eq29811 : goal.returns-then-y-eq29811
unfolding keys first_with big_at
returns-then-y-eq29811 c = search (arms, rules)

pub returns-else-y-eq29811 : goal.returns-else-y-eq29811
unfolding keys first_with big_at
returns-else-y-eq29811 c = search (arms, rules)

pub returns-then-y-eq28526-2 : goal.returns-then-y-eq28526-2
unfolding keys first_with big_at
returns-then-y-eq28526-2 c = search (arms, rules)

pub returns-else-y-eq28526-2 : goal.returns-else-y-eq28526-2
unfolding keys first_with big_at
returns-else-y-eq28526-2 c = search (arms, rules)

pub returns-in_default : goal.returns-in_default
unfolding keys first_with big_at
returns-in_default c = search (arms, rules)
