-- What a record says of each key, by parts of a few sorts: the way back from message's Record.
use Prim.Native.{Nat.ℕ, Nat.◌-◌, String.String}
use Rattle.std.specs.Prelude.{Bool, true, false, not, ◌&&◌, ◌||◌, Float, length, take, drop, replicate}
use mathlib.Core.{List.List, List.[], List.◌∷◌, Option.Option, Option.some, Option.none}
use lib.{Dec.eqb, Dec.leb, IntN.ℤ, IntN.pos, IntN.negsuc}
use Rattle.std.specs.Float.{binary64}
use Rattle.std.specs.Float.Ieee.{to_bits, fits as holds}
use Rattle.octets.specs.Choice.{either}
use Rattle.names.specs.Names.{bytes, same_bytes}
use Rattle.field.specs.Kind.{Value}
use Rattle.field.specs.declared.Position.{Position}
use Rattle.message.specs.declared.{Maybe.Maybe, Version.Version}

-- what a part of a record says, if anything; and whether nothing is in it beside that
pub record Part : Type 0 where
  pub said : Option Value
  pub clean : Bool

-- a field that is always there
abbrev pub always : Value → Part
always v = record { said = some v; clean = true }

-- a field that may be absent: its value is zero then
abbrev pub said_if : Bool → Value → Bool → Part
said_if here v empty = record { said = either here (λ _. some v) (λ _. none); clean = here || empty }

abbrev pub is_zero : ℤ → Bool
is_zero (pos n) = eqb n 0
is_zero (negsuc k) = false

-- minus zero is not zero: records compare by their 64 bits
abbrev pub no_bits : Float → Bool
no_bits x = eqb (to_bits binary64 x) 0 && holds binary64 x

abbrev pub no_position : Position → Bool
no_position p = no_bits p.latitude && (no_bits p.longitude && no_bits p.altitude)

abbrev pub word : ℕ → Part
word n = always (Value.number (pos n))

abbrev pub id : ℤ → Part
id z = always (Value.number z)

abbrev pub mark : Bool → Part
mark b = always (Value.mark b)

abbrev pub real : Float → Part
real x = always (Value.figure x)

abbrev pub string : List ℕ → Part
string d = always (Value.string d)

abbrev pub real_if : Maybe Float → Part
real_if w = said_if w.here (Value.figure w.value) (no_bits w.value)

abbrev pub word_if : Maybe ℕ → Part
word_if w = said_if w.here (Value.number (pos w.value)) (eqb w.value 0)

abbrev pub id_if : Maybe ℤ → Part
id_if w = said_if w.here (Value.number w.value) (is_zero w.value)

abbrev pub mark_if : Maybe Bool → Part
mark_if w = said_if w.here (Value.mark w.value) (not w.value)

abbrev pub position_value : Position → Value
position_value p = Value.position p.latitude p.longitude p.altitude

abbrev pub position_if : Maybe Position → Part
position_if w = said_if w.here (position_value w.value) (no_position w.value)

abbrev pub release_value : Version → Value
release_value v = Value.release v.major v.minor v.patch

abbrev pub no_release : Version → Bool
no_release v = eqb v.major 0 && (eqb v.minor 0 && eqb v.patch 0)

abbrev pub version_if : Maybe Version → Part
version_if w = said_if w.here (release_value w.value) (no_release w.value)

-- a number whose zero isn't written
abbrev pub unless_zero : ℕ → Part
unless_zero n = said_if (not (eqb n 0)) (Value.number (pos n)) (eqb n 0)

-- a real whose plus zero isn't
abbrev pub unless_plus_zero : Float → Part
unless_plus_zero x = said_if (not (no_bits x)) (Value.figure x) (no_bits x)

-- counters, where they are said
abbrev pub counts_if : Bool → List ℕ → Part
counts_if here ns = said_if here (Value.counts ns) true

abbrev pub strings : List (List ℕ) → Part
strings ds = always (Value.strings ds)

abbrev pub are_nulls : ℕ → List ℕ → Bool
are_nulls n d = same_bytes d (replicate n 0)

-- the first n bytes of room for so many; the others are zero
abbrev pub tidy : ℕ → ℕ → List ℕ → Bool
tidy size n d = eqb (length d) size && (leb n size && are_nulls (size - n) (drop n d))

-- bytes in such room, where none means absent
abbrev pub string_if : ℕ → ℕ → List ℕ → Part
string_if size n d = record { said = either (not (eqb n 0)) (λ _. some (Value.string (take n d))) (λ _. none); clean = tidy size n d }

-- a key and its part
pub record Saying : Type 0 where
  pub key : List ℕ
  pub part : Part

abbrev pub says : String → Part → Saying
says k p = record { key = bytes k; part = p }

-- of any other key nothing is said
abbrev pub no_part : Part
no_part = record { said = none; clean = true }

unfoldable pub part_in : List Saying → List ℕ → Part
part_in [] k = no_part
part_in (r ∷ rs) k = either (same_bytes r.key k) (λ _. r.part) (λ _. part_in rs k)
