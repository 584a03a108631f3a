-- What each answer says in document 01's numbers.
use Rattle.std.specs.Prelude.{ℕ, Result, Ok, Err}
use Rattle.refusal.specs.declared.Refusal.{Refusal}
use Rattle.refusal.specs.Number.{number_of}
use Rattle.meters.specs.declared.Credit.{Credit}

-- what the table's calls answer: a row's number, or a credit
abbrev pub Found : Type 0
Found = Result ℕ Refusal

abbrev pub Uplinked : Type 0
Uplinked = Result Credit Refusal

-- document 01's number of each answer, 0 where the call is not refused, and its values, 0 where it is
abbrev pub table_refusal : Found → ℕ
table_refusal (Ok i) = 0
table_refusal (Err r) = number_of r

abbrev pub row_of : Found → ℕ
row_of (Ok i) = i
row_of (Err r) = 0

abbrev pub credit_refusal_of : Uplinked → ℕ
credit_refusal_of (Ok c) = 0
credit_refusal_of (Err r) = number_of r

abbrev pub hearers_of : Uplinked → ℕ
hearers_of (Ok c) = c.hearers
hearers_of (Err r) = 0

abbrev pub credit_row_of : Uplinked → ℕ
credit_row_of (Ok c) = c.row
credit_row_of (Err r) = 0
