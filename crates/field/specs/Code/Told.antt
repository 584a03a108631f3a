-- A cell as the code hands it on: what is made of its value, or why it has none.
use Rattle.std.specs.Prelude.{Result, Ok, Err}
use Rattle.field.specs.declared.Flaw.{Flaw, TheVariants.Invalid, TheVariants.Missing, TheVariants.Twice}
use Rattle.field.specs.{Kind.Value, Cell.Cell}

-- document 01's 15, 14 and 13
abbrev pub told_of : {A : Type 0} → (Value → A) → Cell → Result A Flaw
told_of f Cell.missing = Err Missing
told_of f Cell.double = Err Twice
told_of f Cell.bad = Err Invalid
told_of f (Cell.good v) = Ok (f v)

-- of a field that is not kept, that it is there
abbrev pub unkept : Value → Unit {0}
unkept v = tt
