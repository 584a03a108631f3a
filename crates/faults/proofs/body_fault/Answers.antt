use borrow.Author.Rules.{rules}
use Rattle.faults.proofs.Bodies.{bodies}
use Rattle.std.proofs.Common.{rules}
use Rattle.faults.proofs.body_fault.Goals as goal

pub returns-in-Con : goal.returns-in-Con
returns-in-Con c = search (bodies, rules)

pub returns-in-ConRsp : goal.returns-in-ConRsp
returns-in-ConRsp c = search (bodies, rules)

pub returns-in-StatusRsp : goal.returns-in-StatusRsp
returns-in-StatusRsp c = search (bodies, rules)

pub returns-in-Det : goal.returns-in-Det
returns-in-Det c = search (bodies, rules)

pub returns-in-DetRsp : goal.returns-in-DetRsp
returns-in-DetRsp c = search (bodies, rules)

pub returns-in-AttPrp : goal.returns-in-AttPrp
returns-in-AttPrp c = search (bodies, rules)

pub returns-in-DetPrp : goal.returns-in-DetPrp
returns-in-DetPrp c = search (bodies, rules)

pub returns-in-UlData : goal.returns-in-UlData
returns-in-UlData c = search (bodies, rules)

pub returns-in-DlDataQue : goal.returns-in-DlDataQue
returns-in-DlDataQue c = search (bodies, rules)

pub returns-in-Bare : goal.returns-in-Bare
returns-in-Bare c = search (bodies, rules)
