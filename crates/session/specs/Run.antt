-- Runs of a session: records that arrive, operations that the centre begins, lost connections, refused ones among them.
use Rattle.std.specs.Prelude.{ℕ, suc, ◌-◌, Bool, true, false, ◌&&◌}
use mathlib.Core.{List.List, List.[], List.◌∷◌, Option.Option, Option.some, Option.none}
use lib.{IntN.ℤ, IntN.pos, Dec.T, Dec.eqb}
use Rattle.octets.specs.Choice.{either}
use Rattle.record.specs.declared.Message.{Message}
use Rattle.record.specs.Record.{command_in}
use Rattle.session.specs.{Session.State, Session.Session, Session.Host, Session.State.Waiting, Session.State.Connecting, Session.State.Open}
use Rattle.session.specs.{Kinds.Operation, Kinds.station_starts, Kinds.operation_by, Centre.centre_begins, Centre.one_below, Centre.lost}
use Rattle.session.specs.Happened.{is_begun, is_started, is_completed, is_answered, is_issued, happened_number}
use Rattle.session.specs.declared.Happened.{Happened}
use Rattle.session.specs.declared.Happened.TheVariants.{Stored, Nothing}
use Rattle.session.specs.Arrive.{Outcome, is_below, highest_of, lowest_of, arrives}

pub data Event : Type 0 where
  arrival : Message → List ℕ → Host → Event
  beginning : Message → List ℕ → Event
  loss : Event

-- a refused step changes nothing
abbrev pub reached : Session → Outcome → Session
reached s (Outcome.refused n) = s
reached s (Outcome.silent w t) = t
reached s (Outcome.replies w t m d) = t

abbrev pub after : Session → Event → Session
after s (Event.arrival m d h) = reached s (arrives s m d h)
after s (Event.beginning m d) = reached s (centre_begins s m d)
after s Event.loss = lost s

abbrev pub if_done : Outcome → ℤ → Option ℤ
if_done (Outcome.refused n) z = none
if_done (Outcome.silent w t) z = some z
if_done (Outcome.replies w t m d) z = some z

abbrev pub while_open : State → Option ℤ → Option ℤ
while_open Waiting o = none
while_open Connecting o = none
while_open Open o = o

abbrev pub if_start : Option Operation → Option ℤ → Option ℤ
if_start none o = none
if_start (some p) o = o

-- the ID of a station's start that is accepted
abbrev pub accepted_in : Session → Event → Option ℤ
accepted_in s (Event.arrival m d h) =
    while_open s.state (if_start (operation_by (λ o. o.start) station_starts (command_in m.body)) (if_done (arrives s m d h) m.op_id))
accepted_in s (Event.beginning m d) = none
accepted_in s Event.loss = none

-- the ID that the centre issues
abbrev pub issued_in : Session → Event → Option ℤ
issued_in s (Event.arrival m d h) = none
issued_in s (Event.beginning m d) = if_done (centre_begins s m d) (one_below (lowest_of s))
issued_in s Event.loss = none

-- a new session begins where a con is taken that does not resume
abbrev pub is_waiting : State → Bool
is_waiting Waiting = true
is_waiting Connecting = false
is_waiting Open = false

abbrev pub has_begun : Outcome → Bool
has_begun (Outcome.refused n) = false
has_begun (Outcome.silent w t) = false
has_begun (Outcome.replies w t m d) = eqb (happened_number w) is_begun

abbrev pub begins_anew : Session → Event → Bool
begins_anew s (Event.arrival m d h) = is_waiting s.state && has_begun (arrives s m d h)
begins_anew s (Event.beginning m d) = false
begins_anew s Event.loss = false

-- an ID, if there is one, is beyond b; and it is the bound from then on
abbrev pub Beyond : (ℤ → ℤ → Bool) → ℤ → Option ℤ → Type 0
Beyond beyond b none = Unit {0}
Beyond beyond b (some z) = T (beyond b z)

abbrev pub latest : ℤ → Option ℤ → ℤ
latest b none = b
latest b (some z) = z

-- the IDs of a run's steps: each beyond the one before it in its session, the first beyond b; a new session begins from 0 again
unfoldable pub Ordered : (ℤ → ℤ → Bool) → (Session → Event → Option ℤ) → ℤ → Session → List Event → Type 0
Ordered beyond id b s [] = Unit {0}
Ordered beyond id b s (e ∷ es) =
    Beyond beyond b (id s e) × Ordered beyond id (either (begins_anew s e) (λ _. pos 0) (λ _. latest b (id s e))) (after s e) es

-- the stations' IDs that are accepted, and the centre's that are issued
abbrev pub Rising : Session → List Event → Type 0
Rising s es = Ordered is_below accepted_in (highest_of s) s es

abbrev pub Falling : Session → List Event → Type 0
Falling s es = Ordered (λ a z. is_below z a) issued_in (lowest_of s) s es

-- the number of what happened in a step; 0 where it was refused
abbrev pub happened_of : Outcome → ℕ
happened_of (Outcome.refused n) = 0
happened_of (Outcome.silent w t) = happened_number w
happened_of (Outcome.replies w t m d) = happened_number w

abbrev pub loss_of : State → Happened
loss_of Waiting = Nothing
loss_of Connecting = Stored
loss_of Open = Stored

abbrev pub happened_in : Session → Event → ℕ
happened_in s (Event.arrival m d h) = happened_of (arrives s m d h)
happened_in s (Event.beginning m d) = happened_of (centre_begins s m d)
happened_in s Event.loss = happened_number (loss_of s.state)

-- how many operations of a side are open after a step: a start takes exactly one entry, a Cmp or Rsp frees exactly one, a new session has none
abbrev pub count_after : ℕ → ℕ → ℕ → ℕ → ℕ
count_after started ended w n =
    either (eqb w started) (λ _. suc n)
    (λ _. either (eqb w ended) (λ _. n - 1)
    (λ _. either (eqb w is_begun) (λ _. 0) (λ _. n)))

abbrev pub station_after : ℕ → ℕ → ℕ
station_after w n = count_after is_started is_completed w n

abbrev pub centre_after : ℕ → ℕ → ℕ
centre_after w n = count_after is_issued is_answered w n

-- the session after a run, and what a count has become by then
unfoldable pub after_all : Session → List Event → Session
after_all s [] = s
after_all s (e ∷ es) = after_all (after s e) es

unfoldable pub count_all : (ℕ → ℕ → ℕ) → Session → List Event → ℕ → ℕ
count_all count s [] n = n
count_all count s (e ∷ es) n = count_all count (after s e) es (count (happened_in s e) n)
