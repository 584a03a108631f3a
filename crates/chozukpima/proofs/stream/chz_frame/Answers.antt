-- A frame that is whole lies within the bytes, so its end is a place. Assumes nothing.
use Rattle.std.proofs.Common.{rules, ◌+◌, ◌≤◌, length, sym, ◌∙◌}
use Rattle.frame.proofs.Format.{fits}
use Rattle.chozukpima.proofs.stream.chz_frame.Goals as goal

pub overflow_add-n : goal.overflow_add-n
overflow_add-n c = let h : 12 + c.in-Ok.n ≤ length c.args.bytes.now = fits c.args.bytes.now _ (sym c.read.ensures ∙ c.in-Ok.is) in search rules
