-- Document 01, "Session": what a session answers to a record that arrives.
use Rattle.std.specs.Prelude.{ℕ, Bool, true, false, not, ◌&&◌, ◌||◌}
use mathlib.Core.{List.List, List.[], Option.Option, Option.some, Option.none}
use lib.{Dec.eqb, IntN.ℤ, IntN.pos, Signed.lt_z}
use Rattle.octets.specs.Choice.{either}
use Rattle.names.specs.Names.{bytes, same_bytes, command_of}
use Rattle.record.specs.declared.{Sixteen.Sixteen, Con.Con, Body.Body, Message.Message}
use Rattle.record.specs.{Record.four_of, Record.sixteen_of, Record.command_in, Says.sixteen_bytes, Fits.fits}
use Rattle.session.specs.Session.{State, Entry, Session, Host}
use Rattle.session.specs.Session.State.{Waiting, Connecting, Open}
use Rattle.session.specs.Place.{same_id, free_place, entry_place, taken, freed, all_free}
use Rattle.session.specs.Kinds.{Operation, station_starts, centre_starts, operation_by}
use Rattle.session.specs.declared.Happened.{Happened}
use Rattle.refusal.specs.declared.Refusal.{Refusal}
use Rattle.refusal.specs.declared.Refusal.TheVariants as refusal
use Rattle.session.specs.declared.Happened.TheVariants as happened

-- a refusal; or what happened, the session after the step, and the message that is to be sent with the bytes that are lent beside it
pub data Outcome : Type 0 where
  refused : Refusal → Outcome
  silent : Happened → Session → Outcome
  replies : Happened → Session → Message → List ℕ → Outcome

-- a is below b
abbrev pub is_below : ℤ → ℤ → Bool
is_below a b = lt_z a b

-- before any, both count as 0, as do a negative highest or a positive lowest handed in
abbrev pub highest_of : Session → ℤ
highest_of s = either (is_below s.highest (pos 0)) (λ _. pos 0) (λ _. s.highest)

abbrev pub lowest_of : Session → ℤ
lowest_of s = either (is_below (pos 0) s.lowest) (λ _. pos 0) (λ _. s.lowest)

-- a message that has nothing more than its ID
abbrev pub bare_of : ℕ → ℤ → Message
bare_of c z = record { op_id = z; body = Body.Bare c }

-- conRsp: version 1.0.0, the host's scEui, whether it resumed, the session's centre UUID
abbrev pub con_rsp_with : ℕ → Bool → Sixteen → Message
con_rsp_with eui resumed uuid =
    record {
      op_id = pos 0;
      body = Body.ConRsp (record { version = record { here = true; value = record { major = 1; minor = 0; patch = 0 } }; sc_eui = eui; sn_resume = resumed; sn_sc_uuid = uuid });
    }

-- the reply to a station's start: detRsp carries the host's sign
abbrev pub det_rsp_of : ℤ → ℕ → Message
det_rsp_of z sign = record { op_id = z; body = Body.DetRsp sign }

abbrev pub rsp_of : ℕ → ℕ → ℤ → Message
rsp_of sign c z = either (eqb c (command_of (bytes "detRsp"))) (λ _. det_rsp_of z sign) (λ _. bare_of c z)

-- it resumes exactly if a session is stored with the same bsEui and snBsUuid, an snBsOpId if present is at most the highest station ID known,
-- and an snScOpId if present is at least the lowest centre ID issued
abbrev pub resumes : Session → Con → Bool
resumes s x =
    s.stored
    && (eqb s.bs_eui x.bs_eui
    && (same_bytes s.sn_bs_uuid (sixteen_bytes x.sn_bs_uuid)
    && ((not x.sn_bs_op_id.here || not (is_below (highest_of s) x.sn_bs_op_id.value))
    && (not x.sn_sc_op_id.here || not (is_below x.sn_sc_op_id.value (lowest_of s))))))

-- the session as it is, in another state, stored or not
abbrev pub moved : State → Bool → Session → Session
moved x b s = record { state = x; stored = b; bs_eui = s.bs_eui; sn_bs_uuid = s.sn_bs_uuid; sn_sc_uuid = s.sn_sc_uuid; highest = s.highest; lowest = s.lowest; station = s.station; centre = s.centre }

abbrev pub resumed : Session → Session
resumed s = moved Connecting s.stored s

-- IDs and open operations cleared; bsEui, snBsUuid and the host's new UUID taken
abbrev pub begun_with : ℕ → List ℕ → List ℕ → Session
begun_with eui bs_uuid sc_uuid = record { state = Connecting; stored = false; bs_eui = eui; sn_bs_uuid = bs_uuid; sn_sc_uuid = sc_uuid; highest = pos 0; lowest = pos 0; station = all_free; centre = all_free }

abbrev pub begun : Host → Con → Session
begun h x = begun_with x.bs_eui (sixteen_bytes x.sn_bs_uuid) h.uuid

abbrev pub connects : Session → Con → Host → Outcome
connects s x h =
    either (resumes s x)
    (λ _. Outcome.replies happened.Resumed (resumed s) (con_rsp_with h.sc_eui true (sixteen_of s.sn_sc_uuid)) [])
    (λ _. Outcome.replies happened.Begun (begun h x) (con_rsp_with h.sc_eui false (sixteen_of h.uuid)) [])

abbrev pub con_in : Body → Option Con
con_in (Body.Con x) = some x
con_in (Body.ConRsp x) = none
con_in (Body.StatusRsp x) = none
con_in (Body.Det x) = none
con_in (Body.DetRsp sign) = none
con_in (Body.AttPrp x) = none
con_in (Body.DetPrp eui) = none
con_in (Body.UlData x) = none
con_in (Body.DlDataQue x) = none
con_in (Body.Bare c) = none

abbrev pub or_outcome : {A : Type 0} → Option A → (A → Outcome) → (Unit {0} → Outcome) → Outcome
or_outcome none f g = g tt
or_outcome (some a) f g = f a

-- waiting takes only con; tests 17, 18 (opId must be 0), 16
abbrev pub takes_con : Session → ℤ → Con → Host → Outcome
takes_con s z x h =
    either (same_id z (pos 0))
    (λ _. either (eqb x.version.value.major 1 && eqb x.version.value.minor 0) (λ _. connects s x h) (λ _. Outcome.refused refusal.Version))
    (λ _. Outcome.refused refusal.IdOutOfOrder)

unfoldable pub in_waiting : Session → Message → Host → Outcome
in_waiting s m h = or_outcome (con_in m.body) (λ x. takes_con s m.op_id x h) (λ _. Outcome.refused refusal.State)

-- conCmp with ID 0 opens; all else is 17
abbrev pub opened : Session → Session
opened s = moved Open s.stored s

unfoldable pub in_connecting : Session → ℕ → ℤ → Outcome
in_connecting s c z = either (eqb c (command_of (bytes "conCmp")) && same_id z (pos 0)) (λ _. Outcome.silent happened.Opened (opened s)) (λ _. Outcome.refused refusal.State)

abbrev pub with_station : Session → ℤ → List Entry → Session
with_station s z t = record { state = s.state; stored = s.stored; bs_eui = s.bs_eui; sn_bs_uuid = s.sn_bs_uuid; sn_sc_uuid = s.sn_sc_uuid; highest = z; lowest = s.lowest; station = t; centre = s.centre }

abbrev pub with_centre : Session → ℤ → List Entry → Session
with_centre s z t = record { state = s.state; stored = s.stored; bs_eui = s.bs_eui; sn_bs_uuid = s.sn_bs_uuid; sn_sc_uuid = s.sn_sc_uuid; highest = s.highest; lowest = z; station = s.station; centre = t }

-- a station starts with an ID above the highest known and above 0 (18), with a free place (19); the reply is the Rsp
abbrev pub start_at : Session → ℕ → Operation → ℤ → Option ℕ → Outcome
start_at s sign o z none = Outcome.refused refusal.SixteenOpen
start_at s sign o z (some i) = Outcome.replies happened.Started (with_station s z (taken s.station i z o.start)) (rsp_of sign o.rsp z) []

abbrev pub starts : Session → ℕ → Operation → ℤ → Outcome
starts s sign o z = either (is_below (highest_of s) z) (λ _. start_at s sign o z (free_place s.station)) (λ _. Outcome.refused refusal.IdOutOfOrder)

-- the entry is freed by a Cmp of the same kind and ID
abbrev pub complete_at : Session → Option ℕ → Outcome
complete_at s none = Outcome.refused refusal.State
complete_at s (some i) = Outcome.silent happened.Completed (with_station s s.highest (freed s.station i))

-- a matching Rsp is replied to with Cmp and frees the entry
abbrev pub respond_at : Session → Operation → ℤ → Option ℕ → Outcome
respond_at s o z none = Outcome.refused refusal.State
respond_at s o z (some i) = Outcome.replies happened.Answered (with_centre s s.lowest (freed s.centre i)) (bare_of o.cmp z) []

-- a start, a Cmp, a Rsp; all else is 17
unfoldable pub in_open : Session → ℕ → ℕ → ℤ → Outcome
in_open s sign c z =
    or_outcome (operation_by (λ o. o.start) station_starts c) (λ o. starts s sign o z)
    (λ _. or_outcome (operation_by (λ o. o.cmp) station_starts c) (λ o. complete_at s (entry_place z o.start s.station))
    (λ _. or_outcome (operation_by (λ o. o.rsp) centre_starts c) (λ o. respond_at s o z (entry_place z o.start s.centre))
    (λ _. Outcome.refused refusal.State)))

abbrev pub in_state : State → Session → Message → Host → Outcome
in_state Waiting s m h = in_waiting s m h
in_state Connecting s m h = in_connecting s (command_in m.body) m.op_id
in_state Open s m h = in_open s (four_of h.sign) (command_in m.body) m.op_id

-- a record with the bytes d that are lent beside it; 15 before all these
unfoldable pub arrives : Session → Message → List ℕ → Host → Outcome
arrives s m d h = either (fits m d) (λ _. in_state s.state s m h) (λ _. Outcome.refused refusal.Invalid)
