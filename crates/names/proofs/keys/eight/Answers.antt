use Rattle.octets.specs.Number.{big_at}
use Rattle.names.specs.Code.Slots.{keys}
use Rattle.names.specs.Code.Numbers.{first_with}
use Rattle.names.proofs.Arms.{arms}
use Rattle.std.proofs.Common.{rules}
use Rattle.names.proofs.keys.eight.Goals as goal

pub returns-in-8317658624922315108 : goal.returns-in-8317658624922315108
unfolding keys first_with big_at
returns-in-8317658624922315108 c = search (arms, rules)

pub returns-in-8317658624821315940 : goal.returns-in-8317658624821315940
unfolding keys first_with big_at
returns-in-8317658624821315940 c = search (arms, rules)

pub returns-in-8317677247799511396 : goal.returns-in-8317677247799511396
unfolding keys first_with big_at
returns-in-8317677247799511396 c = search (arms, rules)

pub returns-in-8317676157482134885 : goal.returns-in-8317676157482134885
unfolding keys first_with big_at
returns-in-8317676157482134885 c = search (arms, rules)

pub returns-in-8317677247900510564 : goal.returns-in-8317677247900510564
unfolding keys first_with big_at
returns-in-8317677247900510564 c = search (arms, rules)

pub returns-in-7959948872477533561 : goal.returns-in-7959948872477533561
unfolding keys first_with big_at
returns-in-7959948872477533561 c = search (arms, rules)

pub returns-in-7238799093683216750 : goal.returns-in-7238799093683216750
unfolding keys first_with big_at
returns-in-7238799093683216750 c = search (arms, rules)

pub returns-in-8463219666207208545 : goal.returns-in-8463219666207208545
unfolding keys first_with big_at
returns-in-8463219666207208545 c = search (arms, rules)

pub returns-in_default : goal.returns-in_default
unfolding keys first_with big_at
returns-in_default c = search (arms, rules)
