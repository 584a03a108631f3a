-- The line is made in a room of 80 bytes, where it fits, and put into the lent one as one part. Assumes nothing.
use Rattle.lines.proofs.Made.{end_size, end_taken, end_made}
use mathlib.Core.Path.{refl}
use Rattle.lines.proofs.end.Goals as goal

pub slice_bounds-text-end : goal.slice_bounds-text-end
slice_bounds-text-end c = end_size _ refl _ _ c.put_counted-n.ensures

pub slice_bounds-put_run-end : goal.slice_bounds-put_run-end
slice_bounds-put_run-end c = end_taken _ refl _ _ c.put_counted-n.ensures

pub returns : goal.returns
returns c = end_made _ refl _ _ c.put_counted-n.ensures _ _ c.put_run.ensures
