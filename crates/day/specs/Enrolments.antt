-- Document 02, Q-3: "A second file, read first, gives enrolments, 14 bytes each: EUI, short address, counter, big endian, at most 1,024 (cut: 33, then EUI twice:
-- 22, then more: 23)."
use mathlib.Core.{Bool.Bool, List.List, List.[]}
use Rattle.std.specs.Prelude.{ℕ, Ok, Err}
use Rattle.refusal.specs.Number.{number_of}
use lib.{Dec.leb, ListN.length, ListN.replicate}
use Rattle.octets.specs.{Choice.either, Number.big_at}
use Rattle.refusal.specs.declared.Refusal.{TheVariants.InputEnds}
use Rattle.meters.specs.Answers.{Found}
use Rattle.meters.specs.Columns.{Columns, columns, Done, enrol_on}
use Rattle.turns.specs.Turns.{Turn}
use Rattle.day.specs.Turn.{passes, stops, refuses_between, leaving}

abbrev pub enrolment_size : ℕ
enrolment_size = 14

-- a table of 1,024 free rows
abbrev pub most_rows : ℕ
most_rows = 1024

unfoldable pub empty_table : Columns
empty_table = columns (replicate most_rows 0) (replicate most_rows 0) (replicate most_rows 0) (replicate most_rows 0) (replicate most_rows 0)

-- the enrolment at the start of the bytes
abbrev pub enrolment_of : List ℕ → Columns → Done Found
enrolment_of s c = enrol_on c (big_at s 0 8) (big_at s 8 2) (big_at s 10 4)

-- a row is taken for its meter, or it is refused
unfoldable pub enrolled_by : Found → Columns → Turn Columns
enrolled_by (Ok i) c = leaving c (passes enrolment_size [])
enrolled_by (Err r) c = leaving c (stops (number_of r))

unfoldable pub enrol_turn : Bool → Columns → List ℕ → Turn Columns
enrol_turn last c s =
    either (leb enrolment_size (length s))
    (λ _. enrolled_by (enrolment_of s c).answer (enrolment_of s c).columns)
    (λ _. leaving c (refuses_between last (length s) InputEnds))

-- as a relation, for runs of turns
pub data EnrolTurn : Bool → Columns → List ℕ → Turn Columns → Type 0 where
  turn : (last : Bool) (c : Columns) (s : List ℕ) → EnrolTurn last c s (enrol_turn last c s)
