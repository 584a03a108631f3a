-- What a host recorded of a day, and the lines that replay prints of it.
use Rattle.std.specs.Prelude.{ℕ, List, [], ◌∷◌, ◌++◌}
use Rattle.trace.specs.Trace.{Arrival}
use Rattle.day.specs.Lines.{reading_line}
use Rattle.live.specs.Live.{Bill, Frame}

-- the frames of a trace, without their times
unfoldable pub frames_of : List Arrival → List Frame
frames_of [] = []
frames_of (a ∷ l) = record { station = a.station; frame = a.frame } ∷ frames_of l

-- a line for each reading that was credited, in their order
unfoldable pub lines_of : List Bill → List ℕ
lines_of [] = []
lines_of (b ∷ bs) = reading_line b.station b.eui b.counter ++ lines_of bs
