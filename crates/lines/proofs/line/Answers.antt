-- The line is made in a room of 80 bytes, where it fits, and put into the lent one as one part. Assumes nothing.
use mathlib.Core.Path.{refl}
use Rattle.lines.proofs.Made.{line_size, line_taken, line_made}
use Rattle.lines.proofs.line.Goals as goal

pub slice_bounds-text-end : goal.slice_bounds-text-end
slice_bounds-text-end c = line_size _ refl _ _ _ _ _ c.put_line-n.ensures

pub slice_bounds-put_run-end : goal.slice_bounds-put_run-end
slice_bounds-put_run-end c = line_taken _ refl _ _ _ _ _ c.put_line-n.ensures

pub returns : goal.returns
returns c = line_made _ refl _ _ _ _ _ c.put_line-n.ensures _ _ c.put_run.ensures
