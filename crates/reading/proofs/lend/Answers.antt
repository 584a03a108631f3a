-- Only statusRsp, ulData and dlDataQue have long bytes. Assumes nothing.
use borrow.Author.Rules.{rules}
use Rattle.reading.proofs.Lending.{lends}
use Rattle.reading.proofs.lend.Goals as goal

pub downlink_into-requires : goal.downlink_into-requires
downlink_into-requires c = (search (lends, rules), c.requires.1)

pub returns-in-Con : goal.returns-in-Con
returns-in-Con c = search (lends, rules)

pub returns-in-ConRsp : goal.returns-in-ConRsp
returns-in-ConRsp c = search (lends, rules)

pub returns-in-StatusRsp : goal.returns-in-StatusRsp
returns-in-StatusRsp c = search (lends, rules)

pub returns-in-Det : goal.returns-in-Det
returns-in-Det c = search (lends, rules)

pub returns-in-DetRsp : goal.returns-in-DetRsp
returns-in-DetRsp c = search (lends, rules)

pub returns-in-AttPrp : goal.returns-in-AttPrp
returns-in-AttPrp c = search (lends, rules)

pub returns-in-DetPrp : goal.returns-in-DetPrp
returns-in-DetPrp c = search (lends, rules)

pub returns-in-UlData : goal.returns-in-UlData
returns-in-UlData c = search (lends, rules)

pub returns-in-DlDataQue : goal.returns-in-DlDataQue
returns-in-DlDataQue c = search (lends, rules)

pub returns-in-Bare : goal.returns-in-Bare
returns-in-Bare c = search (lends, rules)
