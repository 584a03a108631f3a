-- Document 01's 15 for a field to write: its value is in the range of its kind, and nothing else is in its part.
use Rattle.std.specs.Prelude.{ℕ, ◌^◌, Bool, true, not, ◌&&◌, Float}
use mathlib.Core.{List.List, List.[], List.◌∷◌, Option.Option, Option.some, Option.none}
use lib.{Dec.eqb, Dec.leb, ListN.length, Pow.are_bytes}
use Rattle.std.specs.Float.{binary32, binary64}
use Rattle.std.specs.Float.Ieee.{to_bits, fits as holds}
use Rattle.octets.specs.Pieces.{are_below, strung}
use Rattle.number.specs.Number.{finite}
use Rattle.field.specs.declared.Position.{Position}
use Rattle.field.specs.{Kind.Kind, Kind.Value, Judge.in_range, Cell.figure_of, Cell.position_of}
use Rattle.message.specs.{Fields.Field, Record.id_of, Record.string_of, Record.counts_of, Record.strings_of}
use Rattle.saying.specs.Says.{Part}

-- a finite real of 64 bits
abbrev pub is_real : Float → Bool
is_real x = finite binary64 (to_bits binary64 x) && holds binary64 x

abbrev pub is_position : Position → Bool
is_position p = is_real p.latitude && (is_real p.longitude && is_real p.altitude)

abbrev pub is_sized : ℕ → ℕ → List ℕ → Bool
is_sized lo hi d = leb lo (length d) && leb (length d) hi

abbrev pub is_release : Value → Bool
is_release Value.nothing = true
is_release (Value.number z) = true
is_release (Value.figure x) = true
is_release (Value.mark b) = true
is_release (Value.position x y z) = true
is_release (Value.string d) = true
is_release (Value.counts ns) = true
is_release (Value.strings ds) = true
is_release (Value.release a b c) = leb a 65535 && (leb b 65535 && leb c 65535)

-- arrays of at most so many bytes
unfoldable pub are_pieces : ℕ → List (List ℕ) → Bool
are_pieces most [] = true
are_pieces most (d ∷ ds) = (leb (length d) most && are_bytes d) && are_pieces most ds

-- the ranges of the kinds
abbrev pub in_bounds : Kind → Value → Bool
in_bounds (Kind.wholes lo hi) v = in_range lo hi (id_of v)
in_bounds Kind.reals v = is_real (figure_of v)
in_bounds Kind.singles v = is_real (figure_of v) && holds binary32 (figure_of v)
in_bounds Kind.flags v = true
in_bounds Kind.positions v = is_position (position_of v)
in_bounds (Kind.arrays lo hi) v = is_sized lo hi (string_of v) && are_bytes (string_of v)
in_bounds (Kind.counters many) v = leb (length (counts_of v)) many && are_below (2 ^ 32) (counts_of v)
in_bounds (Kind.pieces many most all) v = (leb (length (strings_of v)) many && leb (length (strung (strings_of v))) all) && are_pieces most (strings_of v)
in_bounds (Kind.texts lo hi) v = is_sized lo hi (string_of v)
in_bounds Kind.versions v = is_release v
in_bounds Kind.words v = true
in_bounds Kind.maps v = true

-- the sort of value that a kind has; a map is not kept
abbrev pub sort_for : Kind → ℕ
sort_for (Kind.wholes lo hi) = 1
sort_for Kind.reals = 2
sort_for Kind.singles = 2
sort_for Kind.flags = 3
sort_for Kind.positions = 4
sort_for (Kind.arrays lo hi) = 5
sort_for (Kind.counters many) = 8
sort_for (Kind.pieces many most all) = 9
sort_for (Kind.texts lo hi) = 5
sort_for Kind.versions = 6
sort_for Kind.words = 5
sort_for Kind.maps = 7

abbrev pub sort_of : Value → ℕ
sort_of Value.nothing = 0
sort_of (Value.number z) = 1
sort_of (Value.figure x) = 2
sort_of (Value.mark b) = 3
sort_of (Value.position x y z) = 4
sort_of (Value.string d) = 5
sort_of (Value.counts ns) = 8
sort_of (Value.strings ds) = 9
sort_of (Value.release a b c) = 6

unfoldable pub within : Kind → Value → Bool
within k v = eqb (sort_of v) (sort_for k) && in_bounds k v

-- a mandatory field is said
abbrev pub said_fits : Field → Option Value → Bool
said_fits f none = not f.must
said_fits f (some v) = within f.kind v

abbrev pub field_fits : Field → Part → Bool
field_fits f p = p.clean && said_fits f p.said
