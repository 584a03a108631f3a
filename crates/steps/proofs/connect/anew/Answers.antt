use borrow.Author.Rules.{rules}
use Rattle.steps.proofs.Replies.{replies}
use Rattle.steps.proofs.Opening.{anew_unsent, anew_sent}
use Rattle.std.proofs.Common.{rules}
use Rattle.steps.proofs.connect.anew.Goals as goal

pub reply-requires : goal.reply-requires
reply-requires c = search (replies, rules)

pub returns-in_err-length : goal.returns-in_err-length
returns-in_err-length c = search (anew_unsent, c.in_err-length.ensures, rules)

pub returns : goal.returns
returns c = search (anew_sent, c.in_ok-length.ensures, rules)
