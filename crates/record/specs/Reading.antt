-- The reading of an outer map's pairs: a refusal, or a record and the bytes that stand beside it. 11, 12, then 13, 14 or 15 by the gravest fault.
use Rattle.std.specs.Prelude.{ℕ, zero, suc, ◌/◌, max, eqb, ltb}
use mathlib.Core.{List.List, Option.Option, Option.some, Option.none}
use Rattle.refusal.specs.declared.Refusal.{Refusal, TheVariants.NoCommand, TheVariants.UnknownCommand, TheVariants.KeyTwice, TheVariants.FieldMissing, TheVariants.Invalid}
use Rattle.octets.specs.Choice.{either}
use Rattle.element.specs.Meaning.{Fields}
use Rattle.names.specs.Names.{bytes, command_of}
use Rattle.field.specs.Cell.{Said, Cell}
use Rattle.message.specs.Fields.{Field, fields_of}
use Rattle.message.specs.Reading.{said_of, cells_of, gravest, look_in, crossed, command_said}
use Rattle.record.specs.declared.Message.{Message}
use Rattle.record.specs.Record.{message_of, data_of}

pub data Reading : Type 0 where
  refused : Refusal → Reading
  reads : Message → List ℕ → Reading

-- the refusal of a fault by its rank: 1 invalid, 2 missing, 3 a key twice; no fault has the rank 0
abbrev pub refusal_of : ℕ → Refusal
refusal_of zero = Invalid
refusal_of (suc zero) = Invalid
refusal_of (suc (suc zero)) = FieldMissing
refusal_of (suc (suc (suc rank))) = KeyTwice

abbrev pub reading_unless : ℕ → Message → List ℕ → Reading
reading_unless g m d = either (eqb g 0) (λ _. Reading.reads m d) (λ _. Reading.refused (refusal_of (g / 64)))

abbrev pub reading_by : ℕ → List Field → List Cell → Reading
reading_by c l cs =
    reading_unless (max (gravest 0 0 l cs) (crossed l (look_in Cell.missing l cs))) (message_of c (look_in Cell.missing l cs)) (data_of c (look_in Cell.missing l cs))

-- a command by its number
unfoldable pub reading_as : ℕ → (List ℕ → Said) → Reading
reading_as c said = reading_by c (fields_of c) (cells_of (fields_of c) said)

-- not among the 24
abbrev pub reading_named : Option (List ℕ) → (List ℕ → Said) → Reading
reading_named none said = Reading.refused NoCommand
reading_named (some n) said = either (ltb (command_of n) 24) (λ _. reading_as (command_of n) said) (λ _. Reading.refused UnknownCommand)

unfoldable pub reading_of : Fields → Reading
reading_of fs = reading_named (command_said (said_of (bytes "command") fs)) (λ k. said_of k fs)
