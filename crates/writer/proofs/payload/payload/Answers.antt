use Rattle.writer.proofs.Bodies.{variants}
use borrow.Author.Rules.{rules}
use Rattle.std.proofs.Common.{rules}
use Rattle.writer.proofs.payload.payload.Goals as goal

pub returns-in-Con : goal.returns-in-Con
returns-in-Con c = search (variants, rules)

pub returns-in-ConRsp : goal.returns-in-ConRsp
returns-in-ConRsp c = search (variants, rules)

pub returns-in-Det : goal.returns-in-Det
returns-in-Det c = search (variants, rules)

pub returns-in-DetRsp : goal.returns-in-DetRsp
returns-in-DetRsp c = search (variants, rules)

pub returns-in-AttPrp : goal.returns-in-AttPrp
returns-in-AttPrp c = search (variants, rules)

pub returns-in-DetPrp : goal.returns-in-DetPrp
returns-in-DetPrp c = search (variants, rules)

pub returns-in-Bare : goal.returns-in-Bare
returns-in-Bare c = search (variants, rules)
