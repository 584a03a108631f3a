use Rattle.octets.specs.Number.{big_at}
use Rattle.names.specs.Code.Slots.{keys}
use Rattle.names.specs.Code.Numbers.{first_with}
use Rattle.names.proofs.Arms.{arms}
use Rattle.std.proofs.Common.{rules}
use Rattle.names.proofs.keys.nine.Goals as goal

pub returns-then-y-eq110 : goal.returns-then-y-eq110
unfolding keys first_with big_at
returns-then-y-eq110 c = search (arms, rules)

pub returns-else-y-eq110 : goal.returns-else-y-eq110
unfolding keys first_with big_at
returns-else-y-eq110 c = search (arms, rules)

pub returns-then-y-eq101 : goal.returns-then-y-eq101
unfolding keys first_with big_at
returns-then-y-eq101 c = search (arms, rules)

pub returns-else-y-eq101 : goal.returns-else-y-eq101
unfolding keys first_with big_at
returns-else-y-eq101 c = search (arms, rules)

pub returns-then-y-eq116 : goal.returns-then-y-eq116
unfolding keys first_with big_at
returns-then-y-eq116 c = search (arms, rules)

pub returns-else-y-eq116 : goal.returns-else-y-eq116
unfolding keys first_with big_at
returns-else-y-eq116 c = search (arms, rules)

pub returns-then-y-eq100 : goal.returns-then-y-eq100
unfolding keys first_with big_at
returns-then-y-eq100 c = search (arms, rules)

pub returns-else-y-eq100 : goal.returns-else-y-eq100
unfolding keys first_with big_at
returns-else-y-eq100 c = search (arms, rules)

pub returns-then-y-eq113 : goal.returns-then-y-eq113
unfolding keys first_with big_at
returns-then-y-eq113 c = search (arms, rules)

pub returns-else-y-eq113 : goal.returns-else-y-eq113
unfolding keys first_with big_at
returns-else-y-eq113 c = search (arms, rules)

pub returns-in_default : goal.returns-in_default
unfolding keys first_with big_at
returns-in_default c = search (arms, rules)
