-- Document 01, "Session": what the centre starts, and a lost connection.
use Rattle.std.specs.Prelude.{ℕ, suc, ◌-◌, ◌^◌, ℤ, pos, negsuc}
use mathlib.Core.{Bool.true, List.List, Option.Option, Option.some, Option.none}
use Rattle.octets.specs.Choice.{either}
use Rattle.record.specs.declared.Message.{Message}
use Rattle.record.specs.{Record.command_in, Fits.fits}
use Rattle.session.specs.{Session.State, Session.Session, Session.State.Waiting, Session.State.Connecting, Session.State.Open}
use Rattle.session.specs.{Place.same_id, Place.free_place, Place.taken, Kinds.Operation, Kinds.centre_starts, Kinds.operation_by}
use Rattle.session.specs.Arrive.{Outcome, moved, lowest_of, or_outcome, with_centre}
use Rattle.refusal.specs.declared.Refusal.TheVariants as refusal
use Rattle.session.specs.declared.Happened.TheVariants as happened

-- the centre's IDs run downward from -1, each one below the last
abbrev pub one_below : ℤ → ℤ
one_below (pos n) = negsuc 0
one_below (negsuc k) = negsuc (suc k)

abbrev pub last_id : ℤ
last_id = negsuc (2 ^ 63 - 1)

-- a record under another ID
abbrev pub under_id : ℤ → Message → Message
under_id z m = record { op_id = z; body = m.body }

-- a bad record is 15, after 19
abbrev pub begin_at : Session → Operation → ℤ → Message → List ℕ → Option ℕ → Outcome
begin_at s o z m d none = Outcome.refused refusal.SixteenOpen
begin_at s o z m d (some i) = either (fits m d) (λ _. Outcome.replies happened.Issued (with_centre s z (taken s.centre i z o.start)) m d) (λ _. Outcome.refused refusal.Invalid)

-- at the lower end no more start (18)
abbrev pub begins : Session → Operation → Message → List ℕ → Outcome
begins s o m d =
    either (same_id (lowest_of s) last_id) (λ _. Outcome.refused refusal.IdOutOfOrder)
    (λ _. begin_at s o (one_below (lowest_of s)) (under_id (one_below (lowest_of s)) m) d (free_place s.centre))

abbrev pub if_open : State → (Unit {0} → Outcome) → Outcome
if_open Waiting f = Outcome.refused refusal.State
if_open Connecting f = Outcome.refused refusal.State
if_open Open f = f tt

-- the centre starts one of its operations; the message is written under the ID issued
abbrev pub kind_begins : Session → ℕ → Message → List ℕ → Outcome
kind_begins s c m d = or_outcome (operation_by (λ o. o.start) centre_starts c) (λ o. begins s o m d) (λ _. Outcome.refused refusal.State)

unfoldable pub centre_begins : Session → Message → List ℕ → Outcome
centre_begins s m d = if_open s.state (λ _. kind_begins s (command_in m.body) m d)

-- lost connection while connecting or open: waiting, session stored; while waiting nothing changes
abbrev pub stored : Session → Session
stored s = moved Waiting true s

abbrev pub lost_in : State → Session → Session
lost_in Waiting s = s
lost_in Connecting s = stored s
lost_in Open s = stored s

unfoldable pub lost : Session → Session
lost s = lost_in s.state s
