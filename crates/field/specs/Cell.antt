-- What an outer map says of a key, and what that is worth under a kind.
use Rattle.std.specs.Prelude.{ℕ}
use mathlib.Core.{Bool.Bool, Bool.true, Bool.false, List.List, List.[], List.◌∷◌, Option.Option, Option.some, Option.none}
use lib.{IntN.ℤ, IntN.pos, Ieee.Float, Ieee.binary64, Ieee.of_bits, ListN.length, ListN.get_or}
use Rattle.octets.specs.Signed.{bits_of}
use Rattle.element.specs.Meaning.{Element}
use Rattle.field.specs.{Kind.Kind, Kind.Value, Judge.judge}
use Rattle.field.specs.declared.{Position.Position, Released.Released}

-- a key stands nowhere, once with an element, or more often
pub data Said : Type 0 where
  absent : Said
  once : Element → Said
  twice : Said

pub data Cell : Type 0 where
  missing double bad : Cell
  good : Value → Cell

abbrev pub judged : Option Value → Cell
judged none = Cell.bad
judged (some v) = Cell.good v

abbrev pub cell_of : Kind → Said → Cell
cell_of k Said.absent = Cell.missing
cell_of k (Said.once e) = judged (judge k e)
cell_of k Said.twice = Cell.double

-- the value of a cell, and whether it has one
abbrev pub value_in : Cell → Value
value_in Cell.missing = Value.nothing
value_in Cell.double = Value.nothing
value_in Cell.bad = Value.nothing
value_in (Cell.good v) = v

abbrev pub here : Cell → Bool
here Cell.missing = false
here Cell.double = false
here Cell.bad = false
here (Cell.good v) = true

-- a value as 64 bits: a number, a mark, or how many bytes or parts; 0 for the others
abbrev pub word_of : Value → ℕ
word_of Value.nothing = 0
word_of (Value.number z) = bits_of 64 z
word_of (Value.figure x) = 0
word_of (Value.mark true) = 1
word_of (Value.mark false) = 0
word_of (Value.position x y z) = 0
word_of (Value.string d) = length d
word_of (Value.counts ns) = length ns
word_of (Value.strings ds) = length ds
word_of (Value.release a b c) = 0

abbrev pub zero64 : Float
zero64 = of_bits binary64 0

abbrev pub located : Float → Float → Float → Position
located x y z = record { latitude = x; longitude = y; altitude = z }

abbrev pub origin : Position
origin = located zero64 zero64 zero64

-- a value as each sort of part that a record has: itself as its own sort, zero as the others
pub record Views : Type 0 where
  pub number : ℤ
  pub figure : Float
  pub mark : Bool
  pub position : Position
  pub string : List ℕ
  pub counts : List ℕ
  pub strings : List (List ℕ)
  pub release : List ℕ

abbrev pub views : ℤ → Float → Bool → Position → List ℕ → List ℕ → List (List ℕ) → List ℕ → Views
views z x b p d ns ds r = record { number = z; figure = x; mark = b; position = p; string = d; counts = ns; strings = ds; release = r }

abbrev pub views_of : Value → Views
views_of Value.nothing = views (pos 0) zero64 false origin [] [] [] []
views_of (Value.number z) = views z zero64 false origin [] [] [] []
views_of (Value.figure x) = views (pos 0) x false origin [] [] [] []
views_of (Value.mark b) = views (pos 0) zero64 b origin [] [] [] []
views_of (Value.position x y z) = views (pos 0) zero64 false (located x y z) [] [] [] []
views_of (Value.string d) = views (pos 0) zero64 false origin d [] [] []
views_of (Value.counts ns) = views (pos 0) zero64 false origin [] ns [] []
views_of (Value.strings ds) = views (pos 0) zero64 false origin [] [] ds []
views_of (Value.release a b c) = views (pos 0) zero64 false origin [] [] [] (a ∷ (b ∷ (c ∷ [])))

abbrev pub figure_of : Value → Float
figure_of v = (views_of v).figure

abbrev pub position_of : Value → Position
position_of v = (views_of v).position

abbrev pub mark_of : Value → Bool
mark_of v = (views_of v).mark

-- a version's three numbers
abbrev pub release_of : Value → Released
release_of v = record { major = get_or (views_of v).release 0 0; minor = get_or (views_of v).release 1 0; patch = get_or (views_of v).release 2 0 }

-- the i-th of them
abbrev pub number_in : ℕ → Cell → ℕ
number_in i c = get_or (views_of (value_in c)).release i 0
