-- Document 01, "Commands" and "Ranges", and document 02, Q-2: the kinds of values that fields have, and the values that a record keeps.
use Rattle.std.specs.Prelude.{ℕ}
use mathlib.Core.{Bool.Bool, List.List}
use lib.{IntN.ℤ, Ieee.Float}

pub data Kind : Type 0 where
  -- a whole number from minus the first to the second
  wholes : ℕ → ℕ → Kind
  -- a real: a finite float, or a whole number from −2^53 to 2^53
  reals : Kind
  -- a real that single precision holds exactly
  singles : Kind
  flags : Kind
  -- an array of three reals
  positions : Kind
  -- an array of so many to so many numbers from 0 to 255
  arrays : ℕ → ℕ → Kind
  -- an array of at most so many numbers from 0 to 2^32 − 1
  counters : ℕ → Kind
  -- an array of at most so many arrays of numbers from 0 to 255, each of at most so many and together of at most so many
  pieces : ℕ → ℕ → ℕ → Kind
  -- a text of so many to so many bytes
  texts : ℕ → ℕ → Kind
  versions : Kind
  -- a text, and a map, that are checked for type and not kept
  words : Kind
  maps : Kind

pub data Value : Type 0 where
  nothing : Value
  number : ℤ → Value
  figure : Float → Value
  mark : Bool → Value
  position : Float → Float → Float → Value
  string : List ℕ → Value
  counts : List ℕ → Value
  strings : List (List ℕ) → Value
  release : ℕ → ℕ → ℕ → Value

-- the ranges of document 01, by name: whole numbers
abbrev pub signed64 : Kind
signed64 = Kind.wholes 0x8000000000000000 0x7FFFFFFFFFFFFFFF

abbrev pub unsigned64 : Kind
unsigned64 = Kind.wholes 0 0xFFFFFFFFFFFFFFFF

abbrev pub unsigned32 : Kind
unsigned32 = Kind.wholes 0 0xFFFFFFFF

abbrev pub unsigned16 : Kind
unsigned16 = Kind.wholes 0 0xFFFF

abbrev pub unsigned8 : Kind
unsigned8 = Kind.wholes 0 0xFF

abbrev pub signed32 : Kind
signed32 = Kind.wholes 0x80000000 0x7FFFFFFF

abbrev pub station_id : Kind
station_id = Kind.wholes 0 0x7FFFFFFFFFFFFFFF

abbrev pub centre_id : Kind
centre_id = Kind.wholes 0x8000000000000000 0

-- arrays of bytes, and texts
abbrev pub bytes16 : Kind
bytes16 = Kind.arrays 16 16

abbrev pub bytes4 : Kind
bytes4 = Kind.arrays 4 4

abbrev pub user_bytes : Kind
user_bytes = Kind.arrays 0 245

abbrev pub profile_text : Kind
profile_text = Kind.texts 1 16

abbrev pub status_text : Kind
status_text = Kind.texts 0 64
