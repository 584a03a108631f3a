use Rattle.octets.specs.Number.{big_at}
use Rattle.names.specs.Code.Slots.{keys}
use Rattle.names.specs.Code.Numbers.{first_with}
use Rattle.names.proofs.Arms.{arms}
use Rattle.std.proofs.Common.{rules}
use Rattle.names.proofs.keys.eleven.Goals as goal

pub returns-then-y-eq6909806 : goal.returns-then-y-eq6909806
unfolding keys first_with big_at
returns-then-y-eq6909806 c = search (arms, rules)

pub returns-else-y-eq6909806 : goal.returns-else-y-eq6909806
unfolding keys first_with big_at
returns-else-y-eq6909806 c = search (arms, rules)

pub returns-then-y-eq5203558 : goal.returns-then-y-eq5203558
unfolding keys first_with big_at
returns-then-y-eq5203558 c = search (arms, rules)

pub returns-else-y-eq5203558 : goal.returns-else-y-eq5203558
unfolding keys first_with big_at
returns-else-y-eq5203558 c = search (arms, rules)

pub returns-then-y-eq6910836 : goal.returns-then-y-eq6910836
unfolding keys first_with big_at
returns-then-y-eq6910836 c = search (arms, rules)

pub returns-else-y-eq6910836 : goal.returns-else-y-eq6910836
unfolding keys first_with big_at
returns-else-y-eq6910836 c = search (arms, rules)

pub returns-then-y-eq4552816 : goal.returns-then-y-eq4552816
unfolding keys first_with big_at
returns-then-y-eq4552816 c = search (arms, rules)

pub returns-else-y-eq4552816 : goal.returns-else-y-eq4552816
unfolding keys first_with big_at
returns-else-y-eq4552816 c = search (arms, rules)

pub returns-in_default : goal.returns-in_default
unfolding keys first_with big_at
returns-in_default c = search (arms, rules)
