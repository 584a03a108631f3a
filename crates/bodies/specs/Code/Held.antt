-- For the private readers: a field's value, and the gravest fault of its list with it. No statement of a public function rests on this page.
use Rattle.std.specs.Prelude.{ℕ, max, Bool, List, [], eqb, Option, Some, None, Result, Ok, Err}
use Rattle.octets.specs.Choice.{either}
use Rattle.field.specs.declared.Flaw.{Flaw, TheVariants.Invalid, TheVariants.Missing, TheVariants.Twice}
use Rattle.field.specs.Cell.{Cell}
use Rattle.message.specs.{Record.word_in, Reading.cell_fault, Reading.graded}
use Rattle.record.specs.declared.Sixteen.{Sixteen}
use Rattle.record.specs.Record.{four_of, sixteen_of, sixteen_in}
use Rattle.bodies.specs.declared.{Held.Held, Parts.Parts, Profile.Profile}

-- why a cell has no value
abbrev pub flaw_of : Cell → Option Flaw
flaw_of Cell.missing = Some Missing
flaw_of Cell.double = Some Twice
flaw_of Cell.bad = Some Invalid
flaw_of (Cell.good v) = None

-- a missing field that is not mandatory is no fault
abbrev pub fault_of : Bool → Option Flaw → Option Flaw
fault_of must None = None
fault_of must (Some Invalid) = Some Invalid
fault_of must (Some Missing) = either must (λ _. Some Missing) (λ _. None)
fault_of must (Some Twice) = Some Twice

abbrev pub rank_of : Flaw → ℕ
rank_of Invalid = 1
rank_of Missing = 2
rank_of Twice = 3

-- the gravest of w and the fault of a field at place i of its list
unfoldable pub judged_as : Bool → ℕ → Cell → ℕ → ℕ
judged_as must i c w = max w (graded (cell_fault must c) i)

-- with what f makes of the field's cell
unfoldable pub held_as : {A : Type 0} → (Cell → A) → Bool → ℕ → Cell → ℕ → Held A
held_as f must i c w = record { worst = judged_as must i c w; value = f c }

abbrev pub parts_in : Cell → Parts
parts_in c = record { flaw = flaw_of c; count = word_in c }

abbrev pub profile_in : Cell → Profile
profile_in c = record { len = word_in c; text = sixteen_in c }

-- why an array of exactly n bytes has no value, by what is told of one of at most n
unfoldable pub exactly : Result ℕ Flaw → ℕ → Option Flaw
exactly (Ok len) n = either (eqb len n) (λ _. None) (λ _. Some Invalid)
exactly (Err e) n = Some e

-- bytes as numbers where they are a field's; else zeros
unfoldable pub four_if : Bool → List ℕ → ℕ
four_if whole d = either whole (λ _. four_of d) (λ _. four_of [])

unfoldable pub sixteen_if : Bool → List ℕ → Sixteen
sixteen_if whole d = either whole (λ _. sixteen_of d) (λ _. sixteen_of [])
