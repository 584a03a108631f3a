-- The table's calls on a list of rows: each gives its answer and the rows afterwards (document 01, "Meter table").
use Rattle.std.specs.Prelude.{ℕ, suc, Ok, Err}
use mathlib.Core.{Bool.Bool, Bool.cond, List.List, List.[], List.◌∷◌}
use lib.{Dec.ltb, ListN.length, ListN.get_or, ListN.set}
use Rattle.refusal.specs.declared.Refusal.TheVariants.{NoRow, AlreadyEnrolled, NoFreeRow, StationNumber}
use Rattle.meters.specs.declared.{Row.Row, Heard.Heard}
use Rattle.meters.specs.Answers.{Found, Uplinked}
use Rattle.meters.specs.Rows.{is_free_row, is_meter, enrolled, withdrawn, hear_of}

-- what stands past the table's end
abbrev pub no_row : Row
no_row = record { used = 0; eui = 0; short = 0; last = 0; heard = 0 }

-- an answer, and the rows afterwards
pub record Left (A : Type 0) : Type 0 where
  pub answer : A
  pub rows : List Row

abbrev pub left : {A : Type 0} → A → List Row → Left A
left answer rows = record { answer = answer; rows = rows }

-- the number of the first row that passes a test; the table's length where none does
unfoldable pub first : (Row → Bool) → List Row → ℕ
first test [] = 0
first test (r ∷ rows) = cond (test r) 0 (suc (first test rows))

-- "a lookup finds the first used row with that EUI"
abbrev pub meter_at : List Row → ℕ → ℕ
meter_at rows eui = first (is_meter eui) rows

-- "the lowest free row"
abbrev pub free_at : List Row → ℕ
free_at rows = first is_free_row rows

-- the row at i becomes this row, and every other row stays; where the table has no row i, the call is refused and all rows stay
abbrev pub changed : {A : Type 0} → List Row → ℕ → Row → A → A → Left A
changed rows i row answer refusal = cond (ltb i (length rows)) (left answer (set rows i row)) (left refusal rows)

-- the meter's row, or 21
unfoldable pub find_in : List Row → ℕ → Left Found
find_in rows eui = left (cond (ltb (meter_at rows eui) (length rows)) (Ok (meter_at rows eui)) (Err NoRow)) rows

-- "Enrol takes the lowest free row (22, then 23)"
unfoldable pub enrol_in : List Row → ℕ → ℕ → ℕ → Left Found
enrol_in rows eui short counter =
    cond (ltb (meter_at rows eui) (length rows))
    (left (Err AlreadyEnrolled) rows)
    (changed rows (free_at rows) (enrolled eui short counter) (Ok (free_at rows)) (Err NoFreeRow))

-- "Withdraw clears the used mark and nothing else (21)"
unfoldable pub withdraw_in : List Row → ℕ → Left Found
withdraw_in rows eui = changed rows (meter_at rows eui) (withdrawn (get_or rows (meter_at rows eui) no_row)) (Ok (meter_at rows eui)) (Err NoRow)

-- what an uplink makes of the meter's row
abbrev pub heard_in : List Row → ℕ → ℕ → ℕ → Heard
heard_in rows eui counter station = hear_of (meter_at rows eui) (get_or rows (meter_at rows eui) no_row) counter station

-- 25, then 21, else the row's rule
unfoldable pub uplink_in : List Row → ℕ → ℕ → ℕ → Left Uplinked
uplink_in rows eui counter station =
    cond (ltb 63 station)
    (left (Err StationNumber) rows)
    (changed rows (meter_at rows eui) (heard_in rows eui counter station).row (heard_in rows eui counter station).answer (Err NoRow))
