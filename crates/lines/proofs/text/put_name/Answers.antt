-- Each name stands in a row of thirteen bytes behind its length; a number of no command writes nothing. Assumes nothing.
use Rattle.lines.proofs.Texts.{no_row_put}
use borrow.Author.Rules.{rules}
use Rattle.names.specs.Names.{commands}
use Rattle.lines.proofs.Texts.{row_fits, row_end_fits, row_end, row_put}
use Rattle.lines.proofs.text.put_name.Goals as goal

pub overflow_cast-n : goal.overflow_cast-n
unfolding commands
overflow_cast-n c = row_fits c.args.command (search rules)

pub overflow_add-from-2 : goal.overflow_add-from-2
unfolding commands
overflow_add-from-2 c = row_end_fits _ (search rules)

pub slice_bounds-put_run-end : goal.slice_bounds-put_run-end
unfolding commands
slice_bounds-put_run-end c = row_end _ (search rules)

pub returns : goal.returns
unfolding commands
returns c = row_put _ (search rules) _ _ c.put_run.ensures

pub returns-then-command-ge-COMMANDS : goal.returns-then-command-ge-COMMANDS
returns-then-command-ge-COMMANDS c = search (no_row_put, rules)
