-- The table as five columns lent by the caller: the calls on columns are the calls on the rows they hold (document 01, "Meter table").
use Rattle.std.specs.Prelude.{ℕ, Err}
use mathlib.Core.{Bool.Bool, Bool.◌&&◌, Bool.cond, List.List, List.map}
use lib.{Dec.eqb, ListN.length, ListN.get_or}
use Rattle.refusal.specs.declared.Refusal.TheVariants.{UnequalColumns}
use Rattle.meters.specs.declared.Row.{Row}
use Rattle.meters.specs.Stations.{numbers_to}
use Rattle.meters.specs.Answers.{Found, Uplinked, table_refusal, row_of, credit_refusal_of, credit_row_of, hearers_of}
use Rattle.meters.specs.Table.{Left, find_in, enrol_in, withdraw_in, uplink_in}

-- "used, EUI, short address, last counter, heard"
pub record Columns : Type 0 where
  pub used : List ℕ
  pub euis : List ℕ
  pub shorts : List ℕ
  pub lasts : List ℕ
  pub heards : List ℕ

abbrev pub columns : List ℕ → List ℕ → List ℕ → List ℕ → List ℕ → Columns
columns used euis shorts lasts heards = record { used = used; euis = euis; shorts = shorts; lasts = lasts; heards = heards }

-- row i is entry i of each column
abbrev pub row_at : Columns → ℕ → Row
row_at c i = record { used = get_or c.used i 0; eui = get_or c.euis i 0; short = get_or c.shorts i 0; last = get_or c.lasts i 0; heard = get_or c.heards i 0 }

-- the rows that the columns hold, and the columns that hold these rows
unfoldable pub table_rows : Columns → List Row
table_rows c = map (row_at c) (numbers_to (length c.used))

unfoldable pub columns_of : List Row → Columns
columns_of rows = columns (map (λ (r : Row). r.used) rows) (map (λ (r : Row). r.eui) rows) (map (λ (r : Row). r.short) rows) (map (λ (r : Row). r.last) rows) (map (λ (r : Row). r.heard) rows)

-- equal lengths
unfoldable pub same_lengths : ℕ → ℕ → ℕ → ℕ → ℕ → Bool
same_lengths used euis shorts lasts heards = eqb euis used && eqb shorts used && eqb lasts used && eqb heards used

abbrev pub even : Columns → Bool
even c = same_lengths (length c.used) (length c.euis) (length c.shorts) (length c.lasts) (length c.heards)

-- what a call's statement settles: the answer, its number and values in document 01, and the five columns afterwards
pub record Done (A : Type 0) : Type 0 where
  pub answer : A
  pub refusal : ℕ
  pub row : ℕ
  pub hearers : ℕ
  pub columns : Columns

abbrev pub told_place : Found → Columns → Done Found
told_place r c = record { answer = r; refusal = table_refusal r; row = row_of r; hearers = 0; columns = c }

abbrev pub told_credit : Uplinked → Columns → Done Uplinked
told_credit r c = record { answer = r; refusal = credit_refusal_of r; row = credit_row_of r; hearers = hearers_of r; columns = c }

-- "Test 24 first": a call on columns is the call on their rows
abbrev pub on_rows : {A : Type 0} → (A → Columns → Done A) → A → (List Row → Left A) → Columns → Done A
on_rows told unequal call c = cond (even c) (told (call (table_rows c)).answer (columns_of (call (table_rows c)).rows)) (told unequal c)

unfoldable pub find_on : Columns → ℕ → Done Found
find_on c eui = on_rows told_place (Err UnequalColumns) (λ (rows : List Row). find_in rows eui) c

unfoldable pub enrol_on : Columns → ℕ → ℕ → ℕ → Done Found
enrol_on c eui short counter = on_rows told_place (Err UnequalColumns) (λ (rows : List Row). enrol_in rows eui short counter) c

unfoldable pub withdraw_on : Columns → ℕ → Done Found
withdraw_on c eui = on_rows told_place (Err UnequalColumns) (λ (rows : List Row). withdraw_in rows eui) c

unfoldable pub uplink_on : Columns → ℕ → ℕ → ℕ → Done Uplinked
uplink_on c eui counter station = on_rows told_credit (Err UnequalColumns) (λ (rows : List Row). uplink_in rows eui counter station) c
