-- What is known, and the bytes that are left, answer for all. Assumes nothing.
use mathlib.Core.{Path.◌≡◌, Bool.◌&&◌}
use lib.ListN.{drop}
use Rattle.session.specs.Image.{are_zeros}
use Rattle.steps.proofs.lies.are_zeros.Given as goal

abbrev pub invariant-loop-b : goal.invariant-loop-b
invariant-loop-b l = l.ok && are_zeros (drop l.b-index l.d) ≡ are_zeros l.d
