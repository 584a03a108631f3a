-- Serves the proofs only: the tests of a command's fields in their order, as the code makes them. proofs/Bodies ties them to record's Fits.
use Rattle.std.specs.Prelude.{◌≡◌, ℕ, zero, suc, ◌+◌, ◌-◌, Bool, not, ◌&&◌, ◌||◌, List, [], ◌∷◌, Option, Some, Float}
use lib.{Dec.eqb, Dec.leb, IntN.ℤ, ListN.length, ListN.drop}
use Rattle.std.specs.Float.{binary32}
use Rattle.std.specs.Float.Ieee.{fits as holds}
use Rattle.octets.specs.{Choice.either, Pieces.pieces_place, Pieces.lengths_lent}
use Rattle.field.specs.Judge.{in_range}
use Rattle.field.specs.declared.Position.{Position}
use Rattle.message.specs.declared.{Maybe.Maybe, Version.Version}
use Rattle.record.specs.declared.{Sixteen.Sixteen, Con.Con, ConRsp.ConRsp, StatusRsp.StatusRsp, Packet.Packet, UlData.UlData, DlDataQue.DlDataQue, Body.Body}
use Rattle.saying.specs.Says.{is_zero, no_bits, no_position, are_nulls}
use Rattle.saying.specs.Fits.{is_real, is_position}
use Rattle.record.specs.Says.{sixteen_bytes, is_bare}

-- a finite real that single precision holds too
unfoldable pub is_single : Float → Bool
is_single x = is_real x && holds binary32 x

-- what may be absent is zero then
unfoldable pub real_fits : Maybe Float → Bool
real_fits x = either x.here (λ _. is_real x.value) (λ _. no_bits x.value)

unfoldable pub position_fits : Maybe Position → Bool
position_fits x = either x.here (λ _. is_position x.value) (λ _. no_position x.value)

-- an operation's number: of the station from 0 on, of the centre up to 0
unfoldable pub station_id_fits : Maybe ℤ → Bool
station_id_fits x = either x.here (λ _. in_range 0 0x7FFFFFFFFFFFFFFF x.value) (λ _. is_zero x.value)

unfoldable pub centre_id_fits : Maybe ℤ → Bool
centre_id_fits x = either x.here (λ _. in_range 0x8000000000000000 0 x.value) (λ _. is_zero x.value)

abbrev pub word_fits : Maybe ℕ → Bool
word_fits x = x.here || eqb x.value 0

abbrev pub mark_fits : Maybe Bool → Bool
mark_fits x = x.here || not x.value

abbrev pub version_fits : Maybe Version → Bool
version_fits x = x.here || (eqb x.value.major 0 && (eqb x.value.minor 0 && eqb x.value.patch 0))

-- at most sixteen bytes; those behind the first n are zeros
unfoldable pub tail_fits : Sixteen → ℕ → Bool
tail_fits x n = leb n 16 && are_nulls (16 - n) (drop n (sixteen_bytes x))

-- so many bytes are lent, and no more than the field may have
abbrev pub lent_fits : ℕ → ℕ → ℕ → Bool
lent_fits most n lent = leb n most && leb n lent

-- as many counters as data entries, where there are counters; else one entry
unfoldable pub counts_fit : Bool → ℕ → Bool
counts_fit depends n = either depends (λ _. leb 1 n && leb n 16) (λ _. eqb n 1)

-- data entries of these lengths, behind others of so many bytes: each and all together have no more than they may, and so many bytes are lent
unfoldable pub lengths_fit : List ℕ → ℕ → ℕ → Bool
lengths_fit [] sum lent = leb sum 800 && leb (pieces_place + sum) lent
lengths_fit (n ∷ ns) sum lent = leb n 245 && lengths_fit ns (sum + n) lent

-- the first n entries of lent bytes
unfoldable pub pieces_fit : ℕ → List ℕ → Bool
pieces_fit n d = leb n 16 && lengths_fit (lengths_lent n d) 0 (length d)

-- a field's number where it fails its test, else what is told of those behind it
unfoldable pub fault_unless : Bool → ℕ → ℕ → ℕ
fault_unless fits n behind = either fits (λ _. behind) (λ _. n)

-- the number that is told, else what is told of those behind
unfoldable pub or_fault : ℕ → ℕ → ℕ
or_fault zero behind = behind
or_fault (suc n) behind = suc n

-- by command; so many bytes are lent
abbrev pub con_fault : Con → ℕ
con_fault x =
    fault_unless x.version.here 3
    (fault_unless (position_fits x.geo_location) 6
    (fault_unless (station_id_fits x.sn_bs_op_id) 8
    (fault_unless (centre_id_fits x.sn_sc_op_id) 9 0)))

abbrev pub con_rsp_fault : ConRsp → ℕ
con_rsp_fault x = fault_unless (version_fits x.version) 3 0

abbrev pub status_fault : StatusRsp → ℕ → ℕ
status_fault x lent =
    fault_unless (lent_fits 64 x.message_len lent) 4
    (fault_unless (is_real x.duty_cycle) 6
    (fault_unless (position_fits x.geo_location) 7
    (fault_unless (word_fits x.uptime) 8
    (fault_unless (real_fits x.temp) 9
    (fault_unless (real_fits x.cpu_load) 10
    (fault_unless (real_fits x.mem_load) 11 0))))))

abbrev pub packet_fault : Packet → ℕ
packet_fault p =
    fault_unless (word_fits p.rx_duration) 5
    (fault_unless (is_real p.signal.snr) 7
    (fault_unless (is_real p.signal.rssi) 8
    (fault_unless (real_fits p.signal.eq_snr) 9
    (fault_unless (tail_fits p.profile p.profile_len) 10 0))))

abbrev pub ul_data_fault : UlData → ℕ → ℕ
ul_data_fault x lent =
    or_fault (packet_fault x.packet)
    (fault_unless (lent_fits 245 x.user_len lent) 11
    (fault_unless (not x.response_exp || x.dl_open) 14 0))

abbrev pub dl_data_que_fault : DlDataQue → List ℕ → ℕ
dl_data_que_fault x d =
    fault_unless (counts_fit x.cnt_depend x.entries) 6
    (fault_unless (pieces_fit x.entries d) 7
    (fault_unless (is_single x.prio) 9
    (fault_unless (mark_fits x.response_exp) 10
    (fault_unless (mark_fits x.response_prio) 11
    (fault_unless (mark_fits x.dl_wind_req) 12
    (fault_unless (mark_fits x.exp_only) 13 0))))))

abbrev pub bare_fault : ℕ → ℕ
bare_fault c = fault_unless (is_bare c) 1 0

-- with the bytes d that are lent
unfoldable pub body_fault : Body → List ℕ → ℕ
body_fault (Body.Con x) d = con_fault x
body_fault (Body.ConRsp x) d = con_rsp_fault x
body_fault (Body.StatusRsp x) d = status_fault x (length d)
body_fault (Body.Det x) d = packet_fault x.packet
body_fault (Body.DetRsp sign) d = 0
body_fault (Body.AttPrp x) d = 0
body_fault (Body.DetPrp eui) d = 0
body_fault (Body.UlData x) d = ul_data_fault x (length d)
body_fault (Body.DlDataQue x) d = dl_data_que_fault x d
body_fault (Body.Bare c) d = bare_fault c

-- what is told without a look at the fields, unless it waits for them
pub record AtOnce (b : Body) (r : Option ℕ) : Type 0 where
  pub told : (d : List ℕ) (n : ℕ) → r ≡ Some n → n ≡ body_fault b d
