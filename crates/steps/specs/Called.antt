-- Document 01, "Session": what a call answers, and what stands in the session's bytes and in the room afterwards.
use Rattle.std.specs.Prelude.{ℕ, Result, Ok, Err}
use Rattle.refusal.specs.{declared.Refusal.Refusal, Number.number_of}
use Rattle.refusal.specs.declared.Refusal.TheVariants.{Invalid, RoomTooShort}
use mathlib.Core.{Bool.◌&&◌, List.List}
use lib.{Dec.eqb, Dec.leb, ListN.length}
use Rattle.octets.specs.{Choice.either, Bytes.put_at}
use Rattle.record.specs.declared.Message.{Message}
use Rattle.record.specs.Written.{frame_for}
use Rattle.session.specs.{Session.Session, Session.Host, Arrive.Outcome, Arrive.arrives, Centre.centre_begins, Centre.lost, Run.loss_of}
use Rattle.session.specs.{Image.session_image, Image.session_at, Image.is_session}
use Rattle.session.specs.{declared.Happened.Happened, Happened.happened_number}
use Rattle.steps.specs.declared.Done.{Done}

-- what happened and how many bytes stand in the room, or a refusal
abbrev pub Answer : Type 0
Answer = Result Done Refusal

-- the numbers of an answer: a refusal has document 01's number and zeros besides, a step that was taken 0, what happened and its length
abbrev pub step_refusal : Answer → ℕ
step_refusal (Ok a) = 0
step_refusal (Err r) = number_of r

abbrev pub step_happened : Answer → ℕ
step_happened (Ok a) = happened_number a.happened
step_happened (Err r) = 0

abbrev pub step_length : Answer → ℕ
step_length (Ok a) = a.length
step_length (Err r) = 0

-- an answer, and the session's bytes and the room afterwards
pub record Called : Type 0 where
  pub answer : Answer
  pub session : List ℕ
  pub room : List ℕ

abbrev pub called : Answer → List ℕ → List ℕ → Called
called a d room = record { answer = a; session = d; room = room }

abbrev pub refused_as : Refusal → Answer
refused_as r = Err r

abbrev pub done_as : Happened → ℕ → Answer
done_as w n = Ok (record { happened = w; length = n })

-- a refused call changes nothing
abbrev pub step_refuses : Refusal → List ℕ → List ℕ → Called
step_refuses r d room = called (refused_as r) d room

-- the step is taken if its frame has place; else 20 last and no step
abbrev pub sends : Happened → List ℕ → Session → List ℕ → List ℕ → Called
sends w d t frame room =
    either (leb (length frame) (length room)) (λ _. called (done_as w (length frame)) (session_image t) (put_at room 0 frame)) (λ _. step_refuses RoomTooShort d room)

-- the rule's step, seen through the bytes
abbrev pub called_by : List ℕ → List ℕ → Outcome → Called
called_by d room (Outcome.refused r) = step_refuses r d room
called_by d room (Outcome.silent w t) = called (done_as w 0) (session_image t) room
called_by d room (Outcome.replies w t m e) = sends w d t (frame_for m e) room

-- bytes that are no session's, and host bytes of a wrong length, are 15 before all others
abbrev pub on_session : List ℕ → List ℕ → (Session → Outcome) → Called
on_session d room step = either (is_session d) (λ _. called_by d room (step (session_at d))) (λ _. step_refuses Invalid d room)

abbrev pub host_of : ℕ → List ℕ → List ℕ → Host
host_of e u g = record { sc_eui = e; uuid = u; sign = g }

-- a record m with the bytes that are lent beside it
unfoldable pub arrive_on : List ℕ → Message → List ℕ → ℕ → List ℕ → List ℕ → List ℕ → Called
arrive_on d m lent e u g room =
    on_session d room (λ s. either (eqb (length u) 16 && eqb (length g) 4) (λ _. arrives s m lent (host_of e u g)) (λ _. Outcome.refused Invalid))

unfoldable pub begin_on : List ℕ → Message → List ℕ → List ℕ → Called
begin_on d m lent room = on_session d room (λ s. centre_begins s m lent)

-- a lost connection
abbrev pub lost_answer : List ℕ → Answer
lost_answer d = either (is_session d) (λ _. done_as (loss_of (session_at d).state) 0) (λ _. refused_as Invalid)

abbrev pub lost_session : List ℕ → List ℕ
lost_session d = either (is_session d) (λ _. session_image (lost (session_at d))) (λ _. d)
