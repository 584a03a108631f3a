-- Document 02, Q-3: a record as it is written; "the writer's order is 34, 25, 35, 20".
use Rattle.std.specs.Prelude.{ℕ, ◌+◌, List, ◌++◌, Result, Ok, Err}
use lib.{Dec.leb, ListN.length}
use Rattle.octets.specs.{Choice.either, Bytes.put_at}
use Rattle.refusal.specs.declared.Refusal.{Refusal, TheVariants.RoomTooShort, TheVariants.StationNumber, TheVariants.TimeSum, TheVariants.NotOneFrame}
use Rattle.groups.specs.Groups.{number_bytes}
use Rattle.trace.specs.Record.{is_one_frame, is_time, is_station}

unfoldable pub record_bytes : ℕ → ℕ → List ℕ → List ℕ
record_bytes gap station frame = number_bytes gap ++ (number_bytes station ++ (number_bytes (length frame) ++ frame))

-- an answer, how many bytes stand in the room or a refusal, and the room afterwards
pub record Recorded : Type 0 where
  pub answer : Result ℕ Refusal
  pub room : List ℕ

abbrev pub recorded : Result ℕ Refusal → List ℕ → Recorded
recorded w room = record { answer = w; room = room }

-- a refused call changes nothing
abbrev pub record_refused : Refusal → List ℕ → Recorded
record_refused k room = recorded (Err k) room

-- bytes at the start of the room, where all of them have place (20)
unfoldable pub placed_in : List ℕ → List ℕ → Recorded
placed_in vs room = either (leb (length vs) (length room)) (λ _. recorded (Ok (length vs)) (put_at room 0 vs)) (λ _. record_refused RoomTooShort room)

unfoldable pub record_in : ℕ → ℕ → ℕ → List ℕ → List ℕ → Recorded
record_in sum gap station frame room =
    either (is_time (sum + gap))
    (λ _. either (is_station station)
    (λ _. either (is_one_frame frame) (λ _. placed_in (record_bytes gap station frame) room)
    (λ _. record_refused NotOneFrame room)) (λ _. record_refused StationNumber room)) (λ _. record_refused TimeSum room)

-- the start of a trace
unfoldable pub start_in : List ℕ → Recorded
start_in room = placed_in (number_bytes 1) room
