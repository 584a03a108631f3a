-- For the private functions: bytes that are a session's, what it replies with, and an operation and a record of which they know a part. No statement
-- of a public function rests on this page.
use mathlib.Core.{Path.◌≡◌, Bool.Bool, Bool.true, Bool.◌||◌, List.List}
use mathlib.Core.Option as M
use Rattle.std.specs.Prelude.{ℕ, Option, Some, None}
use lib.{Dec.eqb, IntN.ℤ, IntN.pos}
use Rattle.octets.specs.Bytes.{IsBytes}
use Rattle.record.specs.declared.{Body.Body, Message.Message}
use Rattle.record.specs.Says.{is_bare}
use Rattle.session.specs.{Kinds.Operation, Session.Entry, Session.Session, Arrive.with_station, Arrive.with_centre}
use Rattle.session.specs.Image.{highest_place, lowest_place, station_ids, centre_ids, station_kinds, centre_kinds, is_session}
use Rattle.steps.specs.declared.side.Side.{Side, TheVariants.Station, TheVariants.Centre}

pub record Lies (d : List ℕ) : Type 0 where
  pub is : is_session d ≡ true
  pub bytes : IsBytes d

-- the answer to a station's start is detRsp or has nothing more
abbrev pub is_reply : ℕ → Bool
is_reply c = eqb c 4 || is_bare c

-- an operation by its start and Rsp, and by its start and Cmp
abbrev pub started_by : ℕ → ℕ → Operation
started_by start rsp = record { start = start; rsp = rsp; cmp = 0 }

abbrev pub ended_by : ℕ → ℕ → Operation
ended_by start cmp = record { start = start; rsp = 0; cmp = cmp }

-- a record whose ID is still to be issued
abbrev pub unnumbered : Body → Message
unnumbered b = record { op_id = pos 0; body = b }

-- where the IDs and the kinds of a side's sixteen operations stand, and the bound of its IDs: the highest of the station's, the lowest of the centre's
abbrev pub side_ids : Side → ℕ
side_ids Station = station_ids
side_ids Centre = centre_ids

abbrev pub side_kinds : Side → ℕ
side_kinds Station = station_kinds
side_kinds Centre = centre_kinds

abbrev pub bound_place : Side → ℕ
bound_place Station = highest_place
bound_place Centre = lowest_place

-- a side's operations and bound in a session, and the session with others
abbrev pub entries_of : Side → Session → List Entry
entries_of Station s = s.station
entries_of Centre s = s.centre

abbrev pub bound_of : Side → Session → ℤ
bound_of Station s = s.highest
bound_of Centre s = s.lowest

abbrev pub with_side : Side → Session → ℤ → List Entry → Session
with_side Station s z t = with_station s z t
with_side Centre s z t = with_centre s z t

-- what the code found: the lowest place that passes, or none
abbrev pub Found : Option ℕ → M.Option ℕ → Type 0
Found (Some i) p = p ≡ M.some i
Found None p = p ≡ M.none
