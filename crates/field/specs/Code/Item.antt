-- For the private readers: the parts of an array behind each other. No statement of a public function rests on this page.
use Rattle.std.specs.Prelude.{ℕ, ◌+◌, ◌≤◌, ◌<◌, max, Option, Some, None}
use mathlib.Core.{Bool.Bool, Bool.true, Bool.false, List.List}
use mathlib.Core.Option as maybe
use lib.{Ieee.Float, ListN.length, ListN.get_or}
use Rattle.element.specs.{Form.span_of, Code.At.leaf_at}
use Rattle.number.specs.Number.{number_of}
use Rattle.field.specs.declared.Measure.{Measure}
use Rattle.field.specs.declared.Octet.{Octet}
use Rattle.field.specs.declared.Piece.{Piece}
use Rattle.field.specs.Judge.{octet_in, naturals_in, piece_in, pieces_in, real_in, reals_in}
use Rattle.field.specs.Code.Into.{leading_in}
use Rattle.field.specs.Code.At.{end_of, leaves_from, shallow_at, leaves_end, nested_end, nested_from}

abbrev pub octet_by : maybe.Option ℕ → ℕ → Option Octet
octet_by maybe.none next = None
octet_by (maybe.some b) next = Some (record { value = b; next = next })

-- the number at a place, if it is from 0 to 255, and the place behind it
unfoldable pub octet_at : List ℕ → ℕ → Option Octet
octet_at s at = octet_by (octet_in (number_of (leaf_at s at))) (end_of at (span_of s at))

abbrev pub is_some : {A : Type 0} → maybe.Option A → Bool
is_some maybe.none = false
is_some (maybe.some a) = true

-- the first r of n bytes from a place on are there, and each is below 0x80: a number of one byte
pub record LowRun (s : List ℕ) (at n r : ℕ) : Type 0 where
  pub few : r ≤ n
  pub within : at + r ≤ max at (length s)
  pub low : (i : ℕ) → i < r → get_or s (at + i) 0 < 0x80

-- n numbers from 0 to hi behind each other
unfoldable pub naturals_from : ℕ → List ℕ → ℕ → ℕ → maybe.Option (List ℕ)
naturals_from hi s n at = naturals_in hi (leaves_from s n at)

abbrev pub octets_from : List ℕ → ℕ → ℕ → maybe.Option (List ℕ)
octets_from s n at = naturals_from 255 s n at

-- as many numbers from 0 to 255 as come before the first other part
unfoldable pub leading_from : List ℕ → ℕ → ℕ → List ℕ
leading_from s n at = leading_in (leaves_from s n at)

-- the bytes that parts or a part are: how many, and the place behind them
abbrev pub piece_by : maybe.Option (List ℕ) → ℕ → Option Piece
piece_by maybe.none next = None
piece_by (maybe.some d) next = Some (record { size = length d; next = next })

-- n numbers from 0 to 255 behind each other
unfoldable pub octets_passed : List ℕ → ℕ → ℕ → Option Piece
octets_passed s n at = piece_by (octets_from s n at) (leaves_end s n at)

-- an array of at most so many of them
unfoldable pub piece_at : ℕ → List ℕ → ℕ → Option Piece
piece_at most s at = piece_by (piece_in most (shallow_at s at)) (nested_end s at (span_of s at))

-- n such arrays behind each other
unfoldable pub pieces_from : ℕ → List ℕ → ℕ → ℕ → maybe.Option (List (List ℕ))
pieces_from most s n at = pieces_in most (nested_from s n at)

abbrev pub measure_by : maybe.Option Float → ℕ → Option Measure
measure_by maybe.none next = None
measure_by (maybe.some x) next = Some (record { x = x; next = next })

-- the finite real at a place, if it is one, and the place behind it
unfoldable pub measure_at : List ℕ → ℕ → Option Measure
measure_at s at = measure_by (real_in (number_of (leaf_at s at))) (end_of at (span_of s at))

-- n such reals behind each other
unfoldable pub reals_from : List ℕ → ℕ → ℕ → maybe.Option (List Float)
reals_from s n at = reals_in (leaves_from s n at)
