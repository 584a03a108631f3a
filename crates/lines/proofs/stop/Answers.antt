-- Both lines are made in a room of 80 bytes, where they fit, and put into the lent one as one part. Assumes nothing.
use Rattle.lines.proofs.Made.{stop_size, stop_taken, stop_made}
use mathlib.Core.Path.{refl}
use Rattle.lines.proofs.stop.Goals as goal

pub slice_bounds-text-end : goal.slice_bounds-text-end
slice_bounds-text-end c = stop_size _ refl _ _ _ c.put_stop-n.ensures

pub slice_bounds-put_run-end : goal.slice_bounds-put_run-end
slice_bounds-put_run-end c = stop_taken _ refl _ _ _ c.put_stop-n.ensures

pub returns : goal.returns
returns c = stop_made _ refl _ _ _ c.put_stop-n.ensures _ _ c.put_run.ensures
