-- What a record says of each key, with the bytes d that are lent beside it: the way back from Record, part by part.
use Rattle.std.specs.Prelude.{ℕ, Bool, true, not, ◌&&◌, ◌||◌, List, [], ◌∷◌, ◌++◌}
use Rattle.std.proofs.Math.Option.{Option}
use lib.{Dec.eqb, Dec.leb, Dec.ltb, ListN.length, ListN.take}
use Rattle.octets.specs.{Choice.either, Bytes.big_bytes}
use Rattle.octets.specs.Pieces.{counters_lent, pieces_lent, are_lent}
use Rattle.names.specs.Names.{commands, name_at, downlink}
use Rattle.field.specs.Kind.{Value}
use Rattle.saying.specs.Says.{Part, Saying, says, part_in, word, id, mark, real, string, strings, real_if, word_if, id_if, mark_if, position_if, version_if, string_if, counts_if, unless_zero, unless_plus_zero}
use Rattle.record.specs.declared.{Sixteen.Sixteen, Packet.Packet, DlDataQue.DlDataQue, Body.Body, Message.Message}
use Rattle.record.specs.Record.{command_in}

unfoldable pub sixteen_bytes : Sixteen → List ℕ
sixteen_bytes x = big_bytes 8 x.high ++ big_bytes 8 x.low

abbrev pub sixteen : Sixteen → Part
sixteen x = string (sixteen_bytes x)

abbrev pub four : ℕ → Part
four x = string (big_bytes 4 x)

-- a part that must pass a test besides
abbrev pub tested : Bool → Part → Part
tested b p = record { said = p.said; clean = b && p.clean }

-- the first n of the lent bytes, of which there are enough
abbrev pub lent : ℕ → List ℕ → Part
lent n d = tested (leb n (length d)) (string (take n d))

-- one of the 24 names; a record that has nothing more is none of the nine that have
abbrev pub is_bare : ℕ → Bool
is_bare c = leb 8 c && (ltb c 24 && not (eqb c downlink))

abbrev pub is_named : Body → Bool
is_named (Body.Con x) = true
is_named (Body.ConRsp x) = true
is_named (Body.StatusRsp x) = true
is_named (Body.Det x) = true
is_named (Body.DetRsp sign) = true
is_named (Body.AttPrp x) = true
is_named (Body.DetPrp eui) = true
is_named (Body.UlData x) = true
is_named (Body.DlDataQue x) = true
is_named (Body.Bare c) = is_bare c

abbrev pub packet_sayings : Packet → List Saying → List Saying
packet_sayings p rs =
    says "epEui" (word p.ep_eui) ∷
    says "rxTime" (word p.rx_time) ∷
    says "rxDuration" (word_if p.rx_duration) ∷
    says "packetCnt" (word p.packet_cnt) ∷
    says "snr" (real p.signal.snr) ∷
    says "rssi" (real p.signal.rssi) ∷
    says "eqSnr" (real_if p.signal.eq_snr) ∷
    says "profile" (string_if 16 p.profile_len (sixteen_bytes p.profile)) ∷
    rs

-- document 02, Q-2: as many counters as data entries, at least one; or no packetCnt and one data entry
abbrev pub is_counted : DlDataQue → Bool
is_counted x = either x.cnt_depend (λ _. leb 1 x.entries) (λ _. eqb x.entries 1)

-- each key of the command once; D fields are not kept. responseExp stands only with dlOpen in ulData
unfoldable pub body_sayings : Body → List ℕ → List Saying
body_sayings (Body.Con x) d =
    says "version" (version_if x.version) ∷
    says "bsEui" (word x.bs_eui) ∷
    says "bidi" (mark x.bidi) ∷
    says "geoLocation" (position_if x.geo_location) ∷
    says "snBsUuid" (sixteen x.sn_bs_uuid) ∷
    says "snBsOpId" (id_if x.sn_bs_op_id) ∷
    says "snScOpId" (id_if x.sn_sc_op_id) ∷
    []
body_sayings (Body.ConRsp x) d =
    says "version" (version_if x.version) ∷
    says "scEui" (word x.sc_eui) ∷
    says "snResume" (mark x.sn_resume) ∷
    says "snScUuid" (sixteen x.sn_sc_uuid) ∷
    []
body_sayings (Body.StatusRsp x) d =
    says "code" (id x.code) ∷
    says "message" (lent x.message_len d) ∷
    says "time" (word x.time) ∷
    says "dutyCycle" (real x.duty_cycle) ∷
    says "geoLocation" (position_if x.geo_location) ∷
    says "uptime" (word_if x.uptime) ∷
    says "temp" (real_if x.temp) ∷
    says "cpuLoad" (real_if x.cpu_load) ∷
    says "memLoad" (real_if x.mem_load) ∷
    []
body_sayings (Body.Det x) d = packet_sayings x.packet (says "sign" (four x.sign) ∷ [])
body_sayings (Body.DetRsp sign) d = says "sign" (four sign) ∷ []
body_sayings (Body.AttPrp x) d =
    says "epEui" (word x.ep_eui) ∷
    says "bidi" (mark x.bidi) ∷
    says "nwkSnKey" (sixteen x.nwk_sn_key) ∷
    says "shAddr" (word x.sh_addr) ∷
    says "lastPacketCnt" (word x.last_packet_cnt) ∷
    says "dualChan" (mark x.dual_chan) ∷
    says "repetition" (mark x.repetition) ∷
    says "wideCarrOff" (mark x.wide_carr_off) ∷
    says "longBlkDist" (mark x.long_blk_dist) ∷
    []
body_sayings (Body.DetPrp eui) d = says "epEui" (word eui) ∷ []
body_sayings (Body.UlData x) d =
    packet_sayings x.packet
    (says "userData" (lent x.user_len d) ∷
    says "format" (unless_zero x.format) ∷
    says "dlOpen" (mark x.dl_open) ∷
    says "responseExp" (tested (not x.response_exp || x.dl_open) (mark x.response_exp)) ∷
    says "dlAck" (mark x.dl_ack) ∷
    [])
body_sayings (Body.DlDataQue x) d =
    says "epEui" (word x.ep_eui) ∷
    says "queId" (word x.que_id) ∷
    says "cntDepend" (mark x.cnt_depend) ∷
    says "packetCnt" (tested (is_counted x) (counts_if x.cnt_depend (counters_lent x.entries d))) ∷
    says "userData" (tested (are_lent x.entries d) (strings (pieces_lent x.entries d))) ∷
    says "format" (unless_zero x.format) ∷
    says "prio" (unless_plus_zero x.prio) ∷
    says "responseExp" (mark_if x.response_exp) ∷
    says "responsePrio" (mark_if x.response_prio) ∷
    says "dlWindReq" (mark_if x.dl_wind_req) ∷
    says "expOnly" (mark_if x.exp_only) ∷
    []
body_sayings (Body.Bare c) d = []

unfoldable pub sayings_of : Message → List ℕ → List Saying
sayings_of m d =
    says "command" (tested (is_named m.body) (string (name_at commands (command_in m.body)))) ∷
    says "opId" (id m.op_id) ∷
    body_sayings m.body d

abbrev pub part_of : Message → List ℕ → List ℕ → Part
part_of m d k = part_in (sayings_of m d) k

abbrev pub says_of : Message → List ℕ → List ℕ → Option Value
says_of m d k = (part_of m d k).said
