-- One number answers every call: bits 0 to 7 the refusal (0: done), 8 to 15 what happened, 16 to 63 the value: a length, a count, a row, a credit's
-- hearers and row, or the place for refusals 4 to 10. A value past 48 bits, which no memory has room for, shows as the greatest.
use Rattle.std.specs.Prelude.{ℕ, ◌+◌, ◌*◌, ◌/◌, ◌%◌, leb, Result, Ok, Err}
use Rattle.refusal.specs.{Number.number_of, declared.Refusal.Refusal}
use Rattle.octets.specs.Choice.{either}
use Rattle.element.specs.Form as Form
use Rattle.frame.specs.Frame.{Framed, frame_refusal, used_of}
use Rattle.meters.specs.Answers.{Found, Uplinked}
use Rattle.meters.specs.declared.Kind.{Kind, TheVariants.New, TheVariants.Copy}
use Rattle.meters.specs.Columns.{Done, Columns}

abbrev pub most : ℕ
most = 0xFFFFFFFFFFFF

unfoldable pub shown : ℕ → ℕ
shown value = either (leb value most) (λ _. value) (λ _. most)

unfoldable pub packed : ℕ → ℕ → ℕ → ℕ
packed refusal happened value = refusal + (256 * happened + 65536 * shown value)

-- what the header's helpers take from an answer: the refusal, what happened and the value
abbrev pub answer_refusal : ℕ → ℕ
answer_refusal a = a % 256

abbrev pub answer_happened : ℕ → ℕ
answer_happened a = a / 256 % 256

abbrev pub answer_value : ℕ → ℕ
answer_value a = a / 65536

-- a call that is refused without a place
abbrev pub refused_with : ℕ → ℕ
refused_with n = packed n 0 0

-- a call that answers a value alone: a length, a row, a place
abbrev pub value_answer : Result ℕ Refusal → ℕ
value_answer (Ok n) = packed 0 0 n
value_answer (Err r) = refused_with (number_of r)

abbrev pub frame_answer : Framed → ℕ
frame_answer f = packed (frame_refusal f) 0 (used_of f)

-- the count of elements, or the place of a break: where one is said the other is 0
abbrev pub form_answer : Form.Walked → ℕ
form_answer w = packed (Form.walk_refusal w) 0 (Form.elements_of w + Form.walk_place w)

abbrev pub place_answer : Done Found → ℕ
place_answer d = packed d.refusal 0 d.row

-- 17 new, 18 a copy: no number of a session's step
abbrev pub kind_number : Kind → ℕ
kind_number New = 17
kind_number Copy = 18

abbrev pub credit_kind : Uplinked → ℕ
credit_kind (Ok c) = kind_number c.kind
credit_kind (Err r) = 0

-- the hearers, who are at most 64, in the value's low byte, and the row above it
unfoldable pub credit_value : ℕ → ℕ → ℕ
credit_value hearers row = hearers + 256 * row

abbrev pub credit_answer : Done Uplinked → ℕ
credit_answer d = packed d.refusal (credit_kind d.answer) (credit_value d.hearers d.row)

-- an answer, and the columns afterwards
pub record Tabled : Type 0 where
  pub answer : ℕ
  pub columns : Columns

abbrev pub placed : Done Found → Tabled
placed d = record { answer = place_answer d; columns = d.columns }

abbrev pub credit_tabled : Done Uplinked → Tabled
credit_tabled d = record { answer = credit_answer d; columns = d.columns }

abbrev pub tabled : ℕ → Columns → Tabled
tabled n c = record { answer = n; columns = c }
