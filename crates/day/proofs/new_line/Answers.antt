-- The line is made in a room of 80 bytes, where it fits, and put into the lent one as one part. Assumes nothing.
use mathlib.Core.Path.{refl}
use Rattle.day.proofs.Texts.{reading_size, reading_taken, reading_made}
use Rattle.day.proofs.new_line.Goals as goal

pub slice_bounds-text-end : goal.slice_bounds-text-end
slice_bounds-text-end c = reading_size _ _ _ _ refl _ c.put_reading-n.ensures

pub slice_bounds-put_run-end : goal.slice_bounds-put_run-end
slice_bounds-put_run-end c = reading_taken _ _ _ _ refl _ c.put_reading-n.ensures

pub returns : goal.returns
returns c = reading_made _ _ _ _ refl _ c.put_reading-n.ensures _ _ c.put_run.ensures
