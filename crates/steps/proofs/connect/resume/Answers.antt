use borrow.Author.Rules.{rules}
use Rattle.steps.proofs.Replies.{replies}
use Rattle.steps.proofs.Opening.{resume_unsent, resume_sent}
use Rattle.steps.proofs.Storing.{session_in, long}
use Rattle.std.proofs.Common.{rules}
use Rattle.steps.proofs.connect.resume.Goals as goal

pub sixteen_at-own-requires : goal.sixteen_at-own-requires
sixteen_at-own-requires c = search (long, rules)

pub reply-requires : goal.reply-requires
reply-requires c = search (replies, rules)

pub bounds-d-344 : goal.bounds-d-344
bounds-d-344 c = search (session_in, rules)

pub returns-in_err-length : goal.returns-in_err-length
returns-in_err-length c = search (resume_unsent, c.in_err-length.ensures, rules)

pub returns : goal.returns
returns c = search (resume_sent, c.in_ok-length.ensures, rules)
