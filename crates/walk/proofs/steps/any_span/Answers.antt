use borrow.Author.Rules.{rules}
use Rattle.walk.proofs.Elements.{spans}
use Rattle.std.proofs.Common.{rules}
use Rattle.walk.proofs.steps.any_span.Goals as goal

pub returns-then-s-at : goal.returns-then-s-at
returns-then-s-at c = search (spans, rules)

pub overflow_add-n : goal.overflow_add-n
overflow_add-n c = search (spans, rules)

pub returns-in-Never : goal.returns-in-Never
returns-in-Never c = search (spans, rules)

pub returns-in-Plain : goal.returns-in-Plain
returns-in-Plain c = search (spans, rules)

pub returns-in-Text : goal.returns-in-Text
returns-in-Text c = search (spans, rules)

pub returns-in-Array : goal.returns-in-Array
returns-in-Array c = search (spans, rules)

pub returns-in-Map : goal.returns-in-Map
returns-in-Map c = search (spans, rules)
