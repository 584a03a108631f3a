-- The record of a command, from what its fields are worth: what is absent is zero. Long bytes stand beside it.
use Prim.Native.{Nat.ℕ, Nat.zero, Nat.suc, String.String}
use Rattle.std.specs.Prelude.{List, [], ◌∷◌}
use Rattle.octets.specs.{Number.big_at, Pieces.downlink_bytes}
use Rattle.names.specs.Names.{bytes, name_at, downlink, if_downlink}
use Rattle.field.specs.Cell.{Cell, value_in}
use Rattle.message.specs.Record.{word_in, figure_in, id_in, mark_in, string_of, counts_of, strings_of, position_in, version_in, maybe_of}
use Rattle.message.specs.declared.Signal.{Signal}
use Rattle.record.specs.declared.{Sixteen.Sixteen, Con.Con, ConRsp.ConRsp, StatusRsp.StatusRsp, Packet.Packet, Det.Det, AttPrp.AttPrp}
use Rattle.record.specs.declared.{UlData.UlData, DlDataQue.DlDataQue, Body.Body, Message.Message}

-- bytes as a number, and sixteen of them as two; a byte that is not there counts as 0
abbrev pub bytes_in : Cell → List ℕ
bytes_in c = string_of (value_in c)

-- counters, and data entries
abbrev pub counts_in : Cell → List ℕ
counts_in c = counts_of (value_in c)

abbrev pub strings_in : Cell → List (List ℕ)
strings_in c = strings_of (value_in c)

abbrev pub four_of : List ℕ → ℕ
four_of d = big_at d 0 4

abbrev pub sixteen_of : List ℕ → Sixteen
sixteen_of d = record { high = big_at d 0 8; low = big_at d 8 8 }

abbrev pub four_in : Cell → ℕ
four_in c = four_of (bytes_in c)

abbrev pub sixteen_in : Cell → Sixteen
sixteen_in c = sixteen_of (bytes_in c)

-- which key each part of a record holds; `look` gives a key's cell
module _ (look : List ℕ → Cell) where
  abbrev on : String → Cell
  on k = look (bytes k)

  abbrev pub con_of : Con
  con_of = record {
    version = maybe_of version_in (on "version");
    bs_eui = word_in (on "bsEui");
    bidi = mark_in (on "bidi");
    geo_location = maybe_of position_in (on "geoLocation");
    sn_bs_uuid = sixteen_in (on "snBsUuid");
    sn_bs_op_id = maybe_of id_in (on "snBsOpId");
    sn_sc_op_id = maybe_of id_in (on "snScOpId");
  }

  abbrev pub con_rsp_of : ConRsp
  con_rsp_of = record {
    version = maybe_of version_in (on "version");
    sc_eui = word_in (on "scEui");
    sn_resume = mark_in (on "snResume");
    sn_sc_uuid = sixteen_in (on "snScUuid");
  }

  abbrev pub status_rsp_of : StatusRsp
  status_rsp_of = record {
    code = id_in (on "code");
    message_len = word_in (on "message");
    time = word_in (on "time");
    duty_cycle = figure_in (on "dutyCycle");
    geo_location = maybe_of position_in (on "geoLocation");
    uptime = maybe_of word_in (on "uptime");
    temp = maybe_of figure_in (on "temp");
    cpu_load = maybe_of figure_in (on "cpuLoad");
    mem_load = maybe_of figure_in (on "memLoad");
  }

  abbrev pub signal_of : Signal
  signal_of = record { snr = figure_in (on "snr"); rssi = figure_in (on "rssi"); eq_snr = maybe_of figure_in (on "eqSnr") }

  abbrev pub packet_of : Packet
  packet_of = record {
    ep_eui = word_in (on "epEui");
    rx_time = word_in (on "rxTime");
    rx_duration = maybe_of word_in (on "rxDuration");
    packet_cnt = word_in (on "packetCnt");
    signal = signal_of;
    profile_len = word_in (on "profile");
    profile = sixteen_in (on "profile");
  }

  abbrev pub det_of : Det
  det_of = record { packet = packet_of; sign = four_in (on "sign") }

  abbrev pub att_prp_of : AttPrp
  att_prp_of = record {
    ep_eui = word_in (on "epEui");
    bidi = mark_in (on "bidi");
    nwk_sn_key = sixteen_in (on "nwkSnKey");
    sh_addr = word_in (on "shAddr");
    last_packet_cnt = word_in (on "lastPacketCnt");
    dual_chan = mark_in (on "dualChan");
    repetition = mark_in (on "repetition");
    wide_carr_off = mark_in (on "wideCarrOff");
    long_blk_dist = mark_in (on "longBlkDist");
  }

  abbrev pub ul_data_of : UlData
  ul_data_of = record {
    packet = packet_of;
    user_len = word_in (on "userData");
    format = word_in (on "format");
    dl_open = mark_in (on "dlOpen");
    response_exp = mark_in (on "responseExp");
    dl_ack = mark_in (on "dlAck");
  }

  -- the counters and the data entries stand beside it
  abbrev pub dl_data_que_of : DlDataQue
  dl_data_que_of = record {
    ep_eui = word_in (on "epEui");
    que_id = word_in (on "queId");
    cnt_depend = mark_in (on "cntDepend");
    entries = word_in (on "userData");
    format = word_in (on "format");
    prio = figure_in (on "prio");
    response_exp = maybe_of mark_in (on "responseExp");
    response_prio = maybe_of mark_in (on "responsePrio");
    dl_wind_req = maybe_of mark_in (on "dlWindReq");
    exp_only = maybe_of mark_in (on "expOnly");
  }

  -- document 01's, in the order of `commands`
  abbrev pub bodies : List Body
  bodies =
      Body.Con con_of ∷
      Body.ConRsp con_rsp_of ∷
      Body.StatusRsp status_rsp_of ∷
      Body.Det det_of ∷
      Body.DetRsp (four_in (on "sign")) ∷
      Body.AttPrp att_prp_of ∷
      Body.DetPrp (word_in (on "epEui")) ∷
      Body.UlData ul_data_of ∷
      []

-- a command past the list has nothing more
unfoldable pub body_in : List Body → ℕ → ℕ → Body
body_in [] i c = Body.Bare c
body_in (b ∷ bs) zero c = b
body_in (b ∷ bs) (suc i) c = body_in bs i c

abbrev pub body_of : ℕ → (List ℕ → Cell) → Body
body_of c look = if_downlink c (Body.DlDataQue (dl_data_que_of look)) (body_in (bodies look) c c)

unfoldable pub message_of : ℕ → (List ℕ → Cell) → Message
message_of c look = record { op_id = id_in (look (bytes "opId")); body = body_of c look }

-- the key whose bytes stand beside the record, in the order of document 01's commands
unfoldable pub lent_keys : List (List ℕ)
lent_keys = [] ∷ ([] ∷ (bytes "message" ∷ ([] ∷ ([] ∷ ([] ∷ ([] ∷ (bytes "userData" ∷ [])))))))

-- beside dlDataQue stand its counters and its data entries
unfoldable pub data_of : ℕ → (List ℕ → Cell) → List ℕ
data_of c look = if_downlink c (downlink_bytes (counts_in (look (bytes "packetCnt"))) (strings_in (look (bytes "userData")))) (bytes_in (look (name_at lent_keys c)))

-- the number of a body's command, by its place in `commands`
abbrev pub command_in : Body → ℕ
command_in (Body.Con x) = 0
command_in (Body.ConRsp x) = 1
command_in (Body.StatusRsp x) = 2
command_in (Body.Det x) = 3
command_in (Body.DetRsp sign) = 4
command_in (Body.AttPrp x) = 5
command_in (Body.DetPrp eui) = 6
command_in (Body.UlData x) = 7
command_in (Body.DlDataQue x) = downlink
command_in (Body.Bare c) = c
