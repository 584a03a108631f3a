-- What a cell makes of each sort of part of a record: its value, and zero where it has none.
use Rattle.std.specs.Prelude.{ℕ}
use mathlib.Core.{Bool.Bool, List.List}
use lib.{IntN.ℤ, Ieee.Float}
use Rattle.field.specs.Kind.{Value}
use Rattle.field.specs.Cell.{Cell, value_in, here, word_of, number_in, views_of, figure_of, position_of}
use Rattle.field.specs.declared.Position.{Position}
use Rattle.message.specs.declared.{Maybe.Maybe, Version.Version}

abbrev pub word_in : Cell → ℕ
word_in c = word_of (value_in c)

abbrev pub figure_in : Cell → Float
figure_in c = figure_of (value_in c)

abbrev pub id_of : Value → ℤ
id_of v = (views_of v).number

abbrev pub id_in : Cell → ℤ
id_in c = id_of (value_in c)

abbrev pub mark_of : Value → Bool
mark_of v = (views_of v).mark

abbrev pub mark_in : Cell → Bool
mark_in c = mark_of (value_in c)

abbrev pub string_of : Value → List ℕ
string_of v = (views_of v).string

abbrev pub counts_of : Value → List ℕ
counts_of v = (views_of v).counts

abbrev pub strings_of : Value → List (List ℕ)
strings_of v = (views_of v).strings

abbrev pub position_in : Cell → Position
position_in c = position_of (value_in c)

abbrev pub version_in : Cell → Version
version_in c = record { major = number_in 0 c; minor = number_in 1 c; patch = number_in 2 c }

-- a field that may be absent
abbrev pub maybe_of : {A : Type 0} → (Cell → A) → Cell → Maybe A
maybe_of f c = record { here = here c; value = f c }
