-- How a record lies in memory: 104 bytes, the head of the C struct chz_message. opId, the command, from 16 on the fields of that command, zeros besides.
use Rattle.std.specs.Prelude.{ℕ, ◌+◌, ◌*◌, Bool, List, [], ◌∷◌, ◌++◌}
use lib.{IntN.ℤ, Ieee.Float, Ieee.binary64, Ieee.to_bits, ListN.replicate}
use Rattle.octets.specs.Bytes.{big_bytes, little_bytes, put_at, mark_byte}
use Rattle.octets.specs.Signed.{bits_of}
use Rattle.field.specs.declared.Position.{Position}
use Rattle.message.specs.declared.{Maybe.Maybe, Version.Version}
use Rattle.record.specs.declared.{Sixteen.Sixteen, Con.Con, ConRsp.ConRsp, StatusRsp.StatusRsp, Packet.Packet, Det.Det, AttPrp.AttPrp, UlData.UlData}
use Rattle.record.specs.declared.{DlDataQue.DlDataQue, Body.Body, Message.Message}
use Rattle.record.specs.Record.{command_in}

-- a value at its place: a number of so many bytes, little or big endian; a signed number of so many; a real; a mark
pub data Stretch : Type 0 where
  number : ℕ → ℕ → ℕ → Stretch
  high : ℕ → ℕ → ℕ → Stretch
  signed : ℕ → ℕ → ℤ → Stretch
  real : ℕ → Float → Stretch
  flag : ℕ → Bool → Stretch

abbrev pub start_of : Stretch → ℕ
start_of (Stretch.number n p x) = p
start_of (Stretch.high n p x) = p
start_of (Stretch.signed n p z) = p
start_of (Stretch.real p x) = p
start_of (Stretch.flag p b) = p

abbrev pub stretch_bytes : Stretch → List ℕ
stretch_bytes (Stretch.number n p x) = little_bytes n x
stretch_bytes (Stretch.high n p x) = big_bytes n x
stretch_bytes (Stretch.signed n p z) = little_bytes n (bits_of (8 * n) z)
stretch_bytes (Stretch.real p x) = little_bytes 8 (to_bits binary64 x)
stretch_bytes (Stretch.flag p b) = little_bytes 1 (mark_byte b)

-- what has several parts
abbrev pub sixteen_lies : ℕ → Sixteen → List Stretch
sixteen_lies p x = Stretch.high 8 p x.high ∷ (Stretch.high 8 (p + 8) x.low ∷ [])

abbrev pub position_lies : ℕ → Position → List Stretch
position_lies p x = Stretch.real p x.latitude ∷ (Stretch.real (p + 8) x.longitude ∷ (Stretch.real (p + 16) x.altitude ∷ []))

abbrev pub version_lies : ℕ → Maybe Version → List Stretch
version_lies p v =
    Stretch.number 2 p v.value.major ∷ (Stretch.number 2 (p + 2) v.value.minor ∷ (Stretch.number 2 (p + 4) v.value.patch ∷ (Stretch.flag (p + 6) v.here ∷ [])))

-- the fields of each command, in the struct's order
unfoldable pub con_lies : Con → List Stretch
con_lies x =
    Stretch.number 8 16 x.bs_eui ∷
    Stretch.signed 8 24 x.sn_bs_op_id.value ∷
    Stretch.signed 8 32 x.sn_sc_op_id.value ∷
    position_lies 40 x.geo_location.value
    ++ (sixteen_lies 64 x.sn_bs_uuid
    ++ (version_lies 80 x.version
    ++ (Stretch.flag 87 x.bidi ∷
    Stretch.flag 88 x.geo_location.here ∷
    Stretch.flag 89 x.sn_bs_op_id.here ∷
    Stretch.flag 90 x.sn_sc_op_id.here ∷
    [])))

unfoldable pub con_rsp_lies : ConRsp → List Stretch
con_rsp_lies x =
    Stretch.number 8 16 x.sc_eui ∷
    sixteen_lies 24 x.sn_sc_uuid
    ++ (version_lies 40 x.version
    ++ (Stretch.flag 47 x.sn_resume ∷ []))

unfoldable pub status_rsp_lies : StatusRsp → List Stretch
status_rsp_lies x =
    Stretch.number 8 16 x.time ∷
    Stretch.number 8 24 x.uptime.value ∷
    Stretch.real 32 x.duty_cycle ∷
    position_lies 40 x.geo_location.value
    ++ (Stretch.real 64 x.temp.value ∷
    Stretch.real 72 x.cpu_load.value ∷
    Stretch.real 80 x.mem_load.value ∷
    Stretch.signed 4 88 x.code ∷
    Stretch.number 1 92 x.message_len ∷
    Stretch.flag 93 x.geo_location.here ∷
    Stretch.flag 94 x.uptime.here ∷
    Stretch.flag 95 x.temp.here ∷
    Stretch.flag 96 x.cpu_load.here ∷
    Stretch.flag 97 x.mem_load.here ∷
    [])

-- det and ulData; the byte at 87 is kept free
unfoldable pub packet_lies : Packet → List Stretch
packet_lies p =
    Stretch.number 8 16 p.ep_eui ∷
    Stretch.number 8 24 p.rx_time ∷
    Stretch.number 8 32 p.rx_duration.value ∷
    Stretch.real 40 p.signal.snr ∷
    Stretch.real 48 p.signal.rssi ∷
    Stretch.real 56 p.signal.eq_snr.value ∷
    sixteen_lies 64 p.profile
    ++ (Stretch.number 4 80 p.packet_cnt ∷
    Stretch.number 1 84 p.profile_len ∷
    Stretch.flag 85 p.rx_duration.here ∷
    Stretch.flag 86 p.signal.eq_snr.here ∷
    [])

unfoldable pub det_lies : Det → List Stretch
det_lies x = packet_lies x.packet ++ (Stretch.high 4 88 x.sign ∷ [])

unfoldable pub att_prp_lies : AttPrp → List Stretch
att_prp_lies x =
    Stretch.number 8 16 x.ep_eui ∷
    sixteen_lies 24 x.nwk_sn_key
    ++ (Stretch.number 4 40 x.last_packet_cnt ∷
    Stretch.number 2 44 x.sh_addr ∷
    Stretch.flag 46 x.bidi ∷
    Stretch.flag 47 x.dual_chan ∷
    Stretch.flag 48 x.repetition ∷
    Stretch.flag 49 x.wide_carr_off ∷
    Stretch.flag 50 x.long_blk_dist ∷
    [])

unfoldable pub ul_data_lies : UlData → List Stretch
ul_data_lies x =
    packet_lies x.packet
    ++ (Stretch.number 1 88 x.user_len ∷
    Stretch.number 1 89 x.format ∷
    Stretch.flag 90 x.dl_open ∷
    Stretch.flag 91 x.response_exp ∷
    Stretch.flag 92 x.dl_ack ∷
    [])

-- a mark that may be absent: whether it is there, and the mark
abbrev pub maybe_lies : ℕ → Maybe Bool → List Stretch → List Stretch
maybe_lies p w rest = Stretch.flag p w.here ∷ (Stretch.flag (p + 1) w.value ∷ rest)

-- dlDataQue; its counters, lengths and data stand in the lent bytes
unfoldable pub dl_data_que_lies : DlDataQue → List Stretch
dl_data_que_lies x =
    Stretch.number 8 16 x.ep_eui ∷
    Stretch.number 8 24 x.que_id ∷
    Stretch.real 32 x.prio ∷
    Stretch.number 1 40 x.entries ∷
    Stretch.number 1 41 x.format ∷
    Stretch.flag 42 x.cnt_depend ∷
    maybe_lies 43 x.response_exp
    (maybe_lies 45 x.response_prio
    (maybe_lies 47 x.dl_wind_req
    (maybe_lies 49 x.exp_only [])))

unfoldable pub body_lies : Body → List Stretch
body_lies (Body.Con x) = con_lies x
body_lies (Body.ConRsp x) = con_rsp_lies x
body_lies (Body.StatusRsp x) = status_rsp_lies x
body_lies (Body.Det x) = det_lies x
body_lies (Body.DetRsp sign) = Stretch.high 4 16 sign ∷ []
body_lies (Body.AttPrp x) = att_prp_lies x
body_lies (Body.DetPrp eui) = Stretch.number 8 16 eui ∷ []
body_lies (Body.UlData x) = ul_data_lies x
body_lies (Body.DlDataQue x) = dl_data_que_lies x
body_lies (Body.Bare c) = []

-- each command has these
abbrev pub head_lies : ℤ → ℕ → List Stretch
head_lies z c = Stretch.signed 8 0 z ∷ (Stretch.number 1 8 c ∷ [])

abbrev pub message_lies : Message → List Stretch
message_lies m = head_lies m.op_id (command_in m.body) ++ body_lies m.body

abbrev pub lay : Stretch → List ℕ → List ℕ
lay s d = put_at d (start_of s) (stretch_bytes s)

unfoldable pub laid : List Stretch → List ℕ → List ℕ
laid [] d = d
laid (s ∷ ss) d = laid ss (lay s d)

abbrev pub message_size : ℕ
message_size = 104

unfoldable pub clear_image : List ℕ
clear_image = replicate message_size 0

unfoldable pub message_image : Message → List ℕ
message_image m = laid (message_lies m) clear_image
