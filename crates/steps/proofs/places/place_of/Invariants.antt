-- The search goes on from place i as the definition does from there. Assumes nothing.
use mathlib.Core.Path.{◌≡◌}
use lib.ListN.{drop}
use Rattle.session.specs.Place.{matches, entry_place, first_from}
use Rattle.session.specs.Image.{session_at}
use Rattle.steps.specs.Code.Lies.{entries_of}
use Rattle.steps.proofs.places.place_of.Given as goal

abbrev pub invariant-loop-i : goal.invariant-loop-i
invariant-loop-i l = entry_place l.id l.start (entries_of l.fn.side (session_at l.d)) ≡ first_from (matches l.id l.start) l.i (drop l.i (entries_of l.fn.side (session_at l.d)))
