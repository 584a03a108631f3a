-- A turn over a file: what is done with the bytes at hand, of which more may come.
use Rattle.std.specs.Prelude.{Bool, true, false, ◌&&◌, not, ℕ, List, [], eqb}
use Rattle.octets.specs.Choice.{either}
use Rattle.refusal.specs.declared.Refusal.{Refusal, TheVariants.InputEnds}
use Rattle.refusal.specs.Number.{number_of}
use Rattle.turns.specs.Turns.{Turn}
use Rattle.lines.specs.Turn.{Printed}
use Rattle.day.specs.Lines.{refused_line}

abbrev pub passes : ℕ → List ℕ → Printed
passes n text = record { used = n; text = text; ended = false }

abbrev pub stops : ℕ → Printed
stops number = record { used = 0; text = refused_line number; ended = true }

abbrev pub finishes : Printed
finishes = record { used = 0; text = []; ended = true }

-- "The first fault from left to right ends the run"; where the input ends inside a number or record (33), more may come
unfoldable pub refuses : Bool → Refusal → Printed
refuses last k = either (eqb (number_of k) (number_of InputEnds) && not last) (λ _. passes 0 []) (λ _. stops (number_of k))

-- between two enrolments, or two records, the input may end: no byte is at hand
unfoldable pub refuses_between : Bool → ℕ → Refusal → Printed
refuses_between last len k = either (eqb len 0 && last) (λ _. finishes) (λ _. refuses last k)

-- with the state that it leaves, and without
module _ {S : Type 0} where
  abbrev pub leaving : S → Printed → Turn S
  leaving x p = record { used = p.used; text = p.text; ended = p.ended; state = x }

  abbrev pub shown_by : Turn S → Printed
  shown_by t = record { used = t.used; text = t.text; ended = t.ended }
