use borrow.Author.Rules.{rules}
use Rattle.names.specs.Names.{commands, command_of}
use Rattle.names.proofs.Parts.{read}
use Rattle.std.proofs.Common.{rules}
use Rattle.names.proofs.command_of.Goals as goal

pub returns-in-3-clause-is : goal.returns-in-3-clause-is
unfolding commands command_of
returns-in-3-clause-is c = search (read, rules)

pub returns-in-3-clause-small : goal.returns-in-3-clause-small
unfolding commands command_of
returns-in-3-clause-small c = search (read, rules)

pub returns-in-4-clause-is : goal.returns-in-4-clause-is
unfolding commands command_of
returns-in-4-clause-is c = search (read, rules)

pub returns-in-4-clause-small : goal.returns-in-4-clause-small
unfolding commands command_of
returns-in-4-clause-small c = search (read, rules)

pub returns-in-6-clause-is : goal.returns-in-6-clause-is
unfolding commands command_of
returns-in-6-clause-is c = search (read, rules)

pub returns-in-6-clause-small : goal.returns-in-6-clause-small
unfolding commands command_of
returns-in-6-clause-small c = search (read, rules)

pub returns-in-7-clause-is : goal.returns-in-7-clause-is
unfolding commands command_of
returns-in-7-clause-is c = search (read, rules)

pub returns-in-7-clause-small : goal.returns-in-7-clause-small
unfolding commands command_of
returns-in-7-clause-small c = search (read, rules)

pub returns-in-9-clause-is : goal.returns-in-9-clause-is
unfolding commands command_of
returns-in-9-clause-is c = search (read, rules)

pub returns-in-9-clause-small : goal.returns-in-9-clause-small
unfolding commands command_of
returns-in-9-clause-small c = search (read, rules)

pub returns-in-12-clause-is : goal.returns-in-12-clause-is
unfolding commands command_of
returns-in-12-clause-is c = search (read, rules)

pub returns-in-12-clause-small : goal.returns-in-12-clause-small
unfolding commands command_of
returns-in-12-clause-small c = search (read, rules)

pub returns-in_default-clause-is : goal.returns-in_default-clause-is
unfolding commands command_of
returns-in_default-clause-is c = search (read, rules)
