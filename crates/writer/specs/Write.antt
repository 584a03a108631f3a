-- Document 01: writing a record with the bytes d that are lent beside it. 15 before 20; a whole frame at the start of the room, and the rest of the
-- room stays.
use Rattle.std.specs.Prelude.{ℕ, List, Result, Ok, Err}
use lib.{Dec.leb, ListN.length}
use Rattle.octets.specs.{Choice.either, Bytes.put_at}
use Rattle.record.specs.declared.Message.{Message}
use Rattle.record.specs.{Fits.fits, Written.frame_for}
use Rattle.refusal.specs.{declared.Refusal.Refusal, declared.Refusal.TheVariants.Invalid, declared.Refusal.TheVariants.RoomTooShort, Number.number_of}

-- an answer, a frame's length or a refusal, and the room afterwards
pub record Sent : Type 0 where
  pub answer : Result ℕ Refusal
  pub room : List ℕ

abbrev pub sent : Result ℕ Refusal → List ℕ → Sent
sent a room = record { answer = a; room = room }

-- a frame that is to stand in the room
unfoldable pub framed : List ℕ → List ℕ → Sent
framed f room = either (leb (length f) (length room)) (λ _. sent (Ok (length f)) (put_at room 0 f)) (λ _. sent (Err RoomTooShort) room)

unfoldable pub written : Message → List ℕ → List ℕ → Sent
written m d room = either (fits m d) (λ _. framed (frame_for m d) room) (λ _. sent (Err Invalid) room)

-- document 01's number and the length written of each answer
abbrev pub write_refusal : Result ℕ Refusal → ℕ
write_refusal (Ok n) = 0
write_refusal (Err r) = number_of r

abbrev pub length_of : Result ℕ Refusal → ℕ
length_of (Ok n) = n
length_of (Err r) = 0
