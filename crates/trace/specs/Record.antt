-- Document 02, Q-3, a trace's records: "nanoseconds since the previous record, station number, length, and that many bytes of a whole frame".
use Rattle.std.specs.Prelude.{ℕ, ◌+◌, ◌^◌, Result, Ok, Err}
use mathlib.Core.{Bool.Bool, Bool.◌&&◌, List.List}
use lib.{Dec.eqb, Dec.leb, Dec.ltb, ListN.length, ListN.take, ListN.drop}
use Rattle.octets.specs.Choice.{either}
use Rattle.frame.specs.Frame.{framed_of, frame_refusal, used_of}
use Rattle.refusal.specs.declared.Refusal.{Refusal, TheVariants.NotATrace, TheVariants.StationNumber, TheVariants.InputEnds, TheVariants.TimeSum, TheVariants.NotOneFrame}
use Rattle.groups.specs.declared.Number.{Number}
use Rattle.groups.specs.Groups.{on_number, number_at}
use Rattle.trace.specs.declared.Entry.{Entry}

-- "bytes not exactly one whole frame" (35)
unfoldable pub is_one_frame : List ℕ → Bool
is_one_frame f = eqb (frame_refusal (framed_of f)) 0 && eqb (used_of (framed_of f)) (length f)

-- "length under 13 or over 4,108" (35)
abbrev pub is_frame_length : ℕ → Bool
is_frame_length n = leb 13 n && leb n 4108

-- "time sum past 2^64−1" (34)
abbrev pub is_time : ℕ → Bool
is_time t = ltb t (2 ^ 64)

-- "station over 63" (25)
abbrev pub is_station : ℕ → Bool
is_station n = leb n 63

-- so many bytes from a place on: they are all there (33) and one frame (35)
unfoldable pub frame_at : List ℕ → ℕ → ℕ → ℕ → ℕ → Result Entry Refusal
frame_at s gap station from size =
    either (leb (from + size) (length s))
    (λ _. either (is_one_frame (take size (drop from s))) (λ _. Ok (record { gap = gap; station = station; from = from; size = size })) (λ _. Err NotOneFrame))
    (λ _. Err InputEnds)

-- from left to right: the length (33, 32) and its range (35)
unfoldable pub length_at : List ℕ → ℕ → ℕ → ℕ → Result Entry Refusal
length_at s gap station at = on_number (number_at s at) (λ n. either (is_frame_length n.value) (λ _. frame_at s gap station n.next n.value) (λ _. Err NotOneFrame))

-- the station (33, 32) and its range (25)
unfoldable pub station_at : List ℕ → ℕ → ℕ → Result Entry Refusal
station_at s gap at = on_number (number_at s at) (λ n. either (is_station n.value) (λ _. length_at s gap n.value n.next) (λ _. Err StationNumber))

-- the record at the start of the bytes, where the gaps before it have this sum: the gap (33, 32) and its sum (34), and so on
unfoldable pub entry_of : ℕ → List ℕ → Result Entry Refusal
entry_of sum s = on_number (number_at s 0) (λ n. either (is_time (sum + n.value)) (λ _. station_at s n.value n.next) (λ _. Err TimeSum))

-- the frame of a record that is read
abbrev pub frame_of : List ℕ → Entry → List ℕ
frame_of s e = take e.size (drop e.from s)

-- a trace's first number is 1 (31)
unfoldable pub start_of : List ℕ → Result Number Refusal
start_of s = on_number (number_at s 0) (λ n. either (eqb n.value 1) (λ _. Ok n) (λ _. Err NotATrace))
