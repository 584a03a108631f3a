use Rattle.octets.specs.Number.{big_at}
use Rattle.names.specs.Code.Slots.{keys}
use Rattle.names.specs.Code.Numbers.{first_with}
use Rattle.names.proofs.Arms.{arms}
use Rattle.std.proofs.Common.{rules}
use Rattle.names.proofs.keys.four.Goals as goal

pub returns-in-1869629796 : goal.returns-in-1869629796
unfolding keys first_with big_at
returns-in-1869629796 c = search (arms, rules)

pub returns-in-1651074153 : goal.returns-in-1651074153
unfolding keys first_with big_at
returns-in-1651074153 c = search (arms, rules)

pub returns-in-1851878757 : goal.returns-in-1851878757
unfolding keys first_with big_at
returns-in-1851878757 c = search (arms, rules)

pub returns-in-1768842863 : goal.returns-in-1768842863
unfolding keys first_with big_at
returns-in-1768842863 c = search (arms, rules)

pub returns-in-1668244581 : goal.returns-in-1668244581
unfolding keys first_with big_at
returns-in-1668244581 c = search (arms, rules)

pub returns-in-1953066341 : goal.returns-in-1953066341
unfolding keys first_with big_at
returns-in-1953066341 c = search (arms, rules)

pub returns-in-1952804208 : goal.returns-in-1952804208
unfolding keys first_with big_at
returns-in-1952804208 c = search (arms, rules)

pub returns-in-1920168809 : goal.returns-in-1920168809
unfolding keys first_with big_at
returns-in-1920168809 c = search (arms, rules)

pub returns-in-1936287598 : goal.returns-in-1936287598
unfolding keys first_with big_at
returns-in-1936287598 c = search (arms, rules)

pub returns-in-1836016741 : goal.returns-in-1836016741
unfolding keys first_with big_at
returns-in-1836016741 c = search (arms, rules)

pub returns-in-1886546287 : goal.returns-in-1886546287
unfolding keys first_with big_at
returns-in-1886546287 c = search (arms, rules)

pub returns-in_default : goal.returns-in_default
unfolding keys first_with big_at
returns-in_default c = search (arms, rules)
