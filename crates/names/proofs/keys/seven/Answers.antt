use Rattle.octets.specs.Number.{big_at}
use Rattle.names.specs.Code.Slots.{keys}
use Rattle.names.specs.Code.Numbers.{first_with}
use Rattle.names.proofs.Arms.{arms}
use Rattle.std.proofs.Common.{rules}
use Rattle.names.proofs.keys.seven.Goals as goal

pub returns-then-y-eq6385252 : goal.returns-then-y-eq6385252
unfolding keys first_with big_at
returns-then-y-eq6385252 c = search (arms, rules)

pub returns-else-y-eq6385252 : goal.returns-else-y-eq6385252
unfolding keys first_with big_at
returns-else-y-eq6385252 c = search (arms, rules)

pub returns-then-y-eq6909806 : goal.returns-then-y-eq6909806
unfolding keys first_with big_at
returns-then-y-eq6909806 c = search (arms, rules)

pub returns-else-y-eq6909806 : goal.returns-else-y-eq6909806
unfolding keys first_with big_at
returns-else-y-eq6909806 c = search (arms, rules)

pub returns-then-y-eq6383461 : goal.returns-then-y-eq6383461
unfolding keys first_with big_at
returns-then-y-eq6383461 c = search (arms, rules)

pub returns-else-y-eq6383461 : goal.returns-else-y-eq6383461
unfolding keys first_with big_at
returns-else-y-eq6383461 c = search (arms, rules)

pub returns-then-y-eq7299428 : goal.returns-then-y-eq7299428
unfolding keys first_with big_at
returns-then-y-eq7299428 c = search (arms, rules)

pub returns-else-y-eq7299428 : goal.returns-else-y-eq7299428
unfolding keys first_with big_at
returns-else-y-eq7299428 c = search (arms, rules)

pub returns-then-y-eq7299428-2 : goal.returns-then-y-eq7299428-2
unfolding keys first_with big_at
returns-then-y-eq7299428-2 c = search (arms, rules)

pub returns-else-y-eq7299428-2 : goal.returns-else-y-eq7299428-2
unfolding keys first_with big_at
returns-else-y-eq7299428-2 c = search (arms, rules)

pub returns-then-y-eq6909029 : goal.returns-then-y-eq6909029
unfolding keys first_with big_at
returns-then-y-eq6909029 c = search (arms, rules)

pub returns-else-y-eq6909029 : goal.returns-else-y-eq6909029
unfolding keys first_with big_at
returns-else-y-eq6909029 c = search (arms, rules)

pub returns-then-y-eq7236729 : goal.returns-then-y-eq7236729
unfolding keys first_with big_at
returns-then-y-eq7236729 c = search (arms, rules)

pub returns-else-y-eq7236729 : goal.returns-else-y-eq7236729
unfolding keys first_with big_at
returns-else-y-eq7236729 c = search (arms, rules)

pub returns-in_default : goal.returns-in_default
unfolding keys first_with big_at
returns-in_default c = search (arms, rules)
