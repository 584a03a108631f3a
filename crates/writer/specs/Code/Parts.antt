-- For the private writers: each variant's message part by part. No statement of a public function rests on this page.
use Prim.Native.{Nat.ℕ, Nat.◌+◌, Nat.◌-◌, String.String}
use Rattle.std.specs.Prelude.{Bool, true, false, not, List, [], ◌∷◌, ◌++◌}
use lib.{Dec.eqb, IntN.ℤ, IntN.pos, Ieee.Float, ListN.length, ListN.take}
use Rattle.octets.specs.{Choice.either, Bytes.big_bytes, Bytes.little_bytes, Pieces.counters_lent, Pieces.pieces_lent, Pieces.are_lent, Code.Put.put_number}
use Rattle.forms.specs.Code.Put.{map_parts, whole_parts, real_parts, mark_parts, text_parts, numbers_parts, pieces_parts, position_parts, version_parts}
use Rattle.names.specs.Names.{bytes, commands, name_at}
use Rattle.field.specs.declared.Position.{Position}
use Rattle.message.specs.declared.{Maybe.Maybe, Version.Version, Signal.Signal}
use Rattle.saying.specs.Says.{no_bits}
use Rattle.record.specs.{Record.command_in, Says.sixteen_bytes}
use Rattle.record.specs.declared.{Sixteen.Sixteen, Con.Con, ConRsp.ConRsp, StatusRsp.StatusRsp, Packet.Packet, DlDataQue.DlDataQue, Body.Body}

-- a text of fewer than 32 bytes as it is written
abbrev pub short_text : List ℕ → List ℕ
short_text d = (0xA0 + length d) ∷ d

abbrev pub text : String → List ℕ
text s = short_text (bytes s)

-- parts behind parts
unfoldable pub chained : List (List (List ℕ)) → List (List ℕ)
chained [] = []
chained (ps ∷ pss) = ps ++ chained pss

-- a key as it is written and the parts of its value, where the field is there
unfoldable pub pair_part : Bool → List ℕ → List (List ℕ) → List (List ℕ)
pair_part here key ps = either here (λ _. key ∷ ps) (λ _. [])

-- the same of a value that may be absent, by the parts of its type's values
abbrev pub maybe_part : {A : Type 0} → (A → List (List ℕ)) → List ℕ → Maybe A → List (List ℕ)
maybe_part ps key x = pair_part x.here key (ps x.value)

abbrev pub word_parts : ℕ → List (List ℕ)
word_parts n = whole_parts (pos n)

abbrev pub place_parts : Position → List (List ℕ)
place_parts p = position_parts p.latitude p.longitude p.altitude

abbrev pub release_parts : Version → List (List ℕ)
release_parts v = version_parts v.major v.minor v.patch

abbrev pub one_if : Bool → ℕ
one_if b = either b (λ _. 1) (λ _. 0)

-- how many pairs a message has: those that it always has, and of five optional ones those that are there
abbrev pub pairs_present : ℕ → Bool → Bool → Bool → Bool → Bool → ℕ
pairs_present always a b c d e = always + one_if a + one_if b + one_if c + one_if d + one_if e

-- the map's head, command's pair and opId's; the names are one part
unfoldable pub title_parts : ℕ → List ℕ → ℤ → List (List ℕ)
title_parts n name z = map_parts n ++ ((text "command" ++ (short_text name ++ text "opId")) ∷ whole_parts z)

-- con
unfoldable pub station_parts : Con → List (List ℕ)
station_parts x =
    chained
    (maybe_part release_parts (text "version") x.version ∷
    pair_part true (text "bsEui") (whole_parts (pos x.bs_eui)) ∷
    pair_part true (text "bidi") (mark_parts x.bidi) ∷
    maybe_part place_parts (text "geoLocation") x.geo_location ∷
    [])

unfoldable pub resume_parts : Sixteen → Maybe ℤ → Maybe ℤ → List (List ℕ)
resume_parts uuid station centre =
    chained
    (pair_part true (text "snBsUuid") (numbers_parts (sixteen_bytes uuid)) ∷
    maybe_part whole_parts (text "snBsOpId") station ∷
    maybe_part whole_parts (text "snScOpId") centre ∷
    [])

-- conRsp
unfoldable pub centre_parts : ConRsp → List (List ℕ)
centre_parts x =
    chained
    (maybe_part release_parts (text "version") x.version ∷
    pair_part true (text "scEui") (whole_parts (pos x.sc_eui)) ∷
    pair_part true (text "snResume") (mark_parts x.sn_resume) ∷
    pair_part true (text "snScUuid") (numbers_parts (sixteen_bytes x.sn_sc_uuid)) ∷
    [])

-- statusRsp
unfoldable pub duty_parts : List ℕ → ℕ → Float → List (List ℕ)
duty_parts message time cycle =
    chained
    (pair_part true (text "message") (text_parts message) ∷
    pair_part true (text "time") (whole_parts (pos time)) ∷
    pair_part true (text "dutyCycle") (real_parts cycle) ∷
    [])

unfoldable pub load_parts : StatusRsp → List (List ℕ)
load_parts x =
    chained
    (maybe_part place_parts (text "geoLocation") x.geo_location ∷
    maybe_part word_parts (text "uptime") x.uptime ∷
    maybe_part real_parts (text "temp") x.temp ∷
    maybe_part real_parts (text "cpuLoad") x.cpu_load ∷
    maybe_part real_parts (text "memLoad") x.mem_load ∷
    [])

unfoldable pub report_parts : StatusRsp → List ℕ → List (List ℕ)
report_parts x d =
    chained
    (pair_part true (text "code") (whole_parts x.code) ∷
    duty_parts (take x.message_len d) x.time x.duty_cycle ∷
    load_parts x ∷
    [])

-- det and ulData
unfoldable pub times_parts : Packet → List (List ℕ)
times_parts p =
    chained
    (pair_part true (text "epEui") (whole_parts (pos p.ep_eui)) ∷
    pair_part true (text "rxTime") (whole_parts (pos p.rx_time)) ∷
    maybe_part word_parts (text "rxDuration") p.rx_duration ∷
    pair_part true (text "packetCnt") (whole_parts (pos p.packet_cnt)) ∷
    [])

unfoldable pub signal_parts : Signal → List (List ℕ)
signal_parts s =
    chained
    (pair_part true (text "snr") (real_parts s.snr) ∷
    pair_part true (text "rssi") (real_parts s.rssi) ∷
    maybe_part real_parts (text "eqSnr") s.eq_snr ∷
    [])

abbrev pub profile_parts : Packet → List (List ℕ)
profile_parts p = pair_part (not (eqb p.profile_len 0)) (text "profile") (text_parts (take p.profile_len (sixteen_bytes p.profile)))

unfoldable pub packet_parts : Packet → List (List ℕ)
packet_parts p = chained (times_parts p ∷ signal_parts p.signal ∷ profile_parts p ∷ [])

abbrev pub packet_count : ℕ → Packet → Bool → ℕ
packet_count always p more = pairs_present always p.rx_duration.here p.signal.eq_snr.here (not (eqb p.profile_len 0)) more false

unfoldable pub answer_parts : ℕ → Bool → Bool → Bool → List (List ℕ)
answer_parts format window expected ack =
    chained
    (pair_part (not (eqb format 0)) (text "format") (whole_parts (pos format)) ∷
    pair_part true (text "dlOpen") (mark_parts window) ∷
    pair_part true (text "responseExp") (mark_parts expected) ∷
    pair_part true (text "dlAck") (mark_parts ack) ∷
    [])

-- attPrp
unfoldable pub meter_parts : ℕ → Bool → List (List ℕ)
meter_parts eui bidi = chained (pair_part true (text "epEui") (whole_parts (pos eui)) ∷ pair_part true (text "bidi") (mark_parts bidi) ∷ [])

unfoldable pub attachment_parts : Sixteen → ℕ → ℕ → List (List ℕ)
attachment_parts key short counter =
    chained
    (pair_part true (text "nwkSnKey") (numbers_parts (sixteen_bytes key)) ∷
    pair_part true (text "shAddr") (whole_parts (pos short)) ∷
    pair_part true (text "lastPacketCnt") (whole_parts (pos counter)) ∷
    [])

unfoldable pub modes_parts : Bool → Bool → Bool → Bool → List (List ℕ)
modes_parts dual repeated wide long =
    chained
    (pair_part true (text "dualChan") (mark_parts dual) ∷
    pair_part true (text "repetition") (mark_parts repeated) ∷
    pair_part true (text "wideCarrOff") (mark_parts wide) ∷
    pair_part true (text "longBlkDist") (mark_parts long) ∷
    [])

-- dlDataQue, where its priority is written or not
abbrev pub downlink_count : DlDataQue → Bool → ℕ
downlink_count x prior =
    pairs_present (pairs_present 6 x.cnt_depend (not (eqb x.format 0)) prior x.response_exp.here x.response_prio.here)
    x.dl_wind_req.here x.exp_only.here false false false

unfoldable pub queue_parts : DlDataQue → List ℕ → List (List ℕ)
queue_parts x d =
    chained
    (pair_part true (text "epEui") (whole_parts (pos x.ep_eui)) ∷
    pair_part true (text "queId") (whole_parts (pos x.que_id)) ∷
    pair_part true (text "cntDepend") (mark_parts x.cnt_depend) ∷
    pair_part x.cnt_depend (text "packetCnt") (numbers_parts (counters_lent x.entries d)) ∷
    pair_part true (text "userData") (pieces_parts (pieces_lent x.entries d)) ∷
    [])

unfoldable pub weight_parts : ℕ → Bool → Float → List (List ℕ)
weight_parts format prior prio =
    chained
    (pair_part (not (eqb format 0)) (text "format") (whole_parts (pos format)) ∷
    pair_part prior (text "prio") (real_parts prio) ∷
    [])

unfoldable pub wishes_parts : DlDataQue → List (List ℕ)
wishes_parts x =
    chained
    (maybe_part mark_parts (text "responseExp") x.response_exp ∷
    maybe_part mark_parts (text "responsePrio") x.response_prio ∷
    maybe_part mark_parts (text "dlWindReq") x.dl_wind_req ∷
    maybe_part mark_parts (text "expOnly") x.exp_only ∷
    [])

-- what is to be written of the lent bytes is there; where fewer are lent than another record says, fewer are written
abbrev pub has_data : Body → List ℕ → Bool
has_data (Body.Con x) d = true
has_data (Body.ConRsp x) d = true
has_data (Body.StatusRsp x) d = true
has_data (Body.Det x) d = true
has_data (Body.DetRsp sign) d = true
has_data (Body.AttPrp x) d = true
has_data (Body.DetPrp eui) d = true
has_data (Body.UlData x) d = true
has_data (Body.DlDataQue x) d = are_lent x.entries d
has_data (Body.Bare c) d = true

-- how many pairs a message has
unfoldable pub pairs_in : Body → ℕ
pairs_in (Body.Con x) = pairs_present 5 x.version.here x.geo_location.here x.sn_bs_op_id.here x.sn_sc_op_id.here false
pairs_in (Body.ConRsp x) = pairs_present 5 x.version.here false false false false
pairs_in (Body.StatusRsp x) = pairs_present 6 x.geo_location.here x.uptime.here x.temp.here x.cpu_load.here x.mem_load.here
pairs_in (Body.Det x) = packet_count 8 x.packet false
pairs_in (Body.DetRsp sign) = 3
pairs_in (Body.AttPrp x) = 11
pairs_in (Body.DetPrp eui) = 3
pairs_in (Body.UlData x) = packet_count 11 x.packet (not (eqb x.format 0))
pairs_in (Body.DlDataQue x) = downlink_count x (not (no_bits x.prio))
pairs_in (Body.Bare c) = 2

-- the fields behind opId in the groups in which they are written, with the bytes d that are lent
unfoldable pub groups_in : Body → List ℕ → List (List (List ℕ))
groups_in (Body.Con x) d = station_parts x ∷ resume_parts x.sn_bs_uuid x.sn_bs_op_id x.sn_sc_op_id ∷ []
groups_in (Body.ConRsp x) d = centre_parts x ∷ []
groups_in (Body.StatusRsp x) d = report_parts x d ∷ []
groups_in (Body.Det x) d = packet_parts x.packet ∷ pair_part true (text "sign") (numbers_parts (big_bytes 4 x.sign)) ∷ []
groups_in (Body.DetRsp sign) d = pair_part true (text "sign") (numbers_parts (big_bytes 4 sign)) ∷ []
groups_in (Body.AttPrp x) d =
    meter_parts x.ep_eui x.bidi ∷
    attachment_parts x.nwk_sn_key x.sh_addr x.last_packet_cnt ∷
    modes_parts x.dual_chan x.repetition x.wide_carr_off x.long_blk_dist ∷
    []
groups_in (Body.DetPrp eui) d = pair_part true (text "epEui") (whole_parts (pos eui)) ∷ []
groups_in (Body.UlData x) d =
    packet_parts x.packet ∷
    pair_part true (text "userData") (numbers_parts (take x.user_len d)) ∷
    answer_parts x.format x.dl_open x.response_exp x.dl_ack ∷
    []
groups_in (Body.DlDataQue x) d = queue_parts x d ∷ weight_parts x.format (not (no_bits x.prio)) x.prio ∷ wishes_parts x ∷ []
groups_in (Body.Bare c) d = []

unfoldable pub body_parts : ℤ → Body → List ℕ → List (List ℕ)
body_parts z b d = chained (title_parts (pairs_in b) (name_at commands (command_in b)) z ∷ groups_in b d)

-- the 12 bytes in front of a payload that ends at a place
unfoldable pub with_head : List ℕ → ℕ → List ℕ
with_head room end = put_number (put_number room 0 8 (big_bytes 8 0x4D494F5459423031)) 8 4 (little_bytes 4 (end - 12))
