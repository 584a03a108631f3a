-- Document 01, "Commands", and document 02, Q-2: each command's fields in its order, command and opId first, the D fields behind the others.
use Prim.Native.{Nat.ℕ, Nat.zero, Nat.suc, String.String}
use mathlib.Core.{Bool.Bool, Bool.true, Bool.false, List.List, List.[], List.◌∷◌}
use Rattle.names.specs.Names.{bytes, if_downlink}
use Rattle.field.specs.Kind.{Kind, signed64, unsigned64, unsigned32, unsigned16, unsigned8, signed32, station_id, centre_id, bytes16, bytes4, user_bytes, profile_text, status_text}

-- a key, whether the field is mandatory, and its kind
pub record Field : Type 0 where
  pub key : List ℕ
  pub must : Bool
  pub kind : Kind

abbrev pub need : String → Kind → Field
need u k = record { key = bytes u; must = true; kind = k }

abbrev pub may : String → Kind → Field
may u k = record { key = bytes u; must = false; kind = k }

-- each command has these two
abbrev pub headed : List Field → List Field
headed fs = need "command" Kind.words ∷ need "opId" signed64 ∷ fs

-- D fields of a station and of the centre
abbrev pub described : List Field
described = may "vendor" Kind.words ∷ may "model" Kind.words ∷ may "name" Kind.words ∷ may "swVersion" Kind.words ∷ may "info" Kind.maps ∷ []

-- what is told of a packet that was received
abbrev pub received : List Field → List Field
received fs =
    need "epEui" unsigned64 ∷
    need "rxTime" unsigned64 ∷
    may "rxDuration" unsigned64 ∷
    need "packetCnt" unsigned32 ∷
    need "snr" Kind.reals ∷
    need "rssi" Kind.reals ∷
    may "eqSnr" Kind.reals ∷
    may "profile" profile_text ∷
    fs

-- document 01's lists, in the order of `commands`; its last thirteen have nothing more
unfoldable pub lists : List (List Field)
lists =
    headed
    (need "version" Kind.versions ∷
    need "bsEui" unsigned64 ∷
    need "bidi" Kind.flags ∷
    may "geoLocation" Kind.positions ∷
    need "snBsUuid" bytes16 ∷
    may "snBsOpId" station_id ∷
    may "snScOpId" centre_id ∷
    described) ∷
    headed
    (may "version" Kind.versions ∷
    need "scEui" unsigned64 ∷
    need "snResume" Kind.flags ∷
    need "snScUuid" bytes16 ∷
    described) ∷
    headed
    (need "code" signed32 ∷
    need "message" status_text ∷
    need "time" unsigned64 ∷
    need "dutyCycle" Kind.reals ∷
    may "geoLocation" Kind.positions ∷
    may "uptime" unsigned64 ∷
    may "temp" Kind.reals ∷
    may "cpuLoad" Kind.reals ∷
    may "memLoad" Kind.reals ∷
    may "config" Kind.maps ∷ []) ∷
    headed (received (need "sign" bytes4 ∷ may "subpackets" Kind.maps ∷ [])) ∷
    headed (need "sign" bytes4 ∷ []) ∷
    headed
    (need "epEui" unsigned64 ∷
    need "bidi" Kind.flags ∷
    need "nwkSnKey" bytes16 ∷
    need "shAddr" unsigned16 ∷
    need "lastPacketCnt" unsigned32 ∷
    need "dualChan" Kind.flags ∷
    need "repetition" Kind.flags ∷
    need "wideCarrOff" Kind.flags ∷
    need "longBlkDist" Kind.flags ∷ []) ∷
    headed (need "epEui" unsigned64 ∷ []) ∷
    headed
    (received
    (need "userData" user_bytes ∷
    may "format" unsigned8 ∷
    need "dlOpen" Kind.flags ∷
    need "responseExp" Kind.flags ∷
    need "dlAck" Kind.flags ∷
    may "mode" Kind.words ∷
    may "subpackets" Kind.maps ∷ [])) ∷
    []

unfoldable pub list_in : List (List Field) → ℕ → List Field
list_in [] n = headed []
list_in (l ∷ ls) zero = l
list_in (l ∷ ls) (suc n) = list_in ls n

-- dlDataQue's, as source document 000 has them
abbrev pub downlink_fields : List Field
downlink_fields =
    headed
    (need "epEui" unsigned64 ∷
    need "queId" unsigned64 ∷
    need "cntDepend" Kind.flags ∷
    may "packetCnt" (Kind.counters 16) ∷
    need "userData" (Kind.pieces 16 245 800) ∷
    may "format" unsigned8 ∷
    may "prio" Kind.singles ∷
    may "responseExp" Kind.flags ∷
    may "responsePrio" Kind.flags ∷
    may "dlWindReq" Kind.flags ∷
    may "expOnly" Kind.flags ∷ [])

-- the fields of the command with a number; its two replies have nothing more
abbrev pub fields_of : ℕ → List Field
fields_of c = if_downlink c downlink_fields (list_in lists c)
