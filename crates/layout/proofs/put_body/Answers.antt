use Rattle.layout.specs.Image.{laid, body_lies}
use Rattle.layout.proofs.Putting.{body_put}
use borrow.Author.Rules.{rules}
use Rattle.std.proofs.Common.{rules}
use Rattle.layout.proofs.put_body.Goals as goal

pub returns-in-Con : goal.returns-in-Con
unfolding laid body_lies
returns-in-Con c = search (body_put, rules)

pub returns-in-ConRsp : goal.returns-in-ConRsp
unfolding laid body_lies
returns-in-ConRsp c = search (body_put, rules)

pub returns-in-StatusRsp : goal.returns-in-StatusRsp
unfolding laid body_lies
returns-in-StatusRsp c = search (body_put, rules)

pub returns-in-Det : goal.returns-in-Det
unfolding laid body_lies
returns-in-Det c = search (body_put, rules)

pub returns-in-DetRsp : goal.returns-in-DetRsp
unfolding laid body_lies
returns-in-DetRsp c = search (body_put, rules)

pub returns-in-AttPrp : goal.returns-in-AttPrp
unfolding laid body_lies
returns-in-AttPrp c = search (body_put, rules)

pub returns-in-DetPrp : goal.returns-in-DetPrp
unfolding laid body_lies
returns-in-DetPrp c = search (body_put, rules)

pub returns-in-UlData : goal.returns-in-UlData
unfolding laid body_lies
returns-in-UlData c = search (body_put, rules)

pub returns-in-DlDataQue : goal.returns-in-DlDataQue
unfolding laid body_lies
returns-in-DlDataQue c = search (body_put, rules)

pub returns-in-Bare : goal.returns-in-Bare
unfolding laid body_lies
returns-in-Bare c = search (body_put, rules)
