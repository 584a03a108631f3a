-- Serves only proofs: the fields of a command from its stretches, by their order. So what is taken from the stretches of a command is the record that
-- has what was taken. Assumes nothing.
use mathlib.Core.{Path.◌≡◌, Path.ap, Bool.Bool, Bool.false, List.List, List.map}
use Prim.Native.Nat.{ℕ, ◌+◌}
use lib.{IntN.ℤ, IntN.pos, Ieee.Float, Ieee.nan, ListN.get_or}
use Rattle.field.specs.declared.Position.{Position}
use Rattle.message.specs.declared.{Maybe.Maybe, Version.Version}
use Rattle.record.specs.declared.{Sixteen.Sixteen, Con.Con, ConRsp.ConRsp, StatusRsp.StatusRsp, Packet.Packet, Det.Det, AttPrp.AttPrp, UlData.UlData}
use Rattle.record.specs.declared.DlDataQue.{DlDataQue}
use Rattle.layout.specs.Image.{Stretch, con_lies, con_rsp_lies, status_rsp_lies, packet_lies, det_lies, att_prp_lies, ul_data_lies, dl_data_que_lies}
use Rattle.layout.specs.Taken.{con_at, con_rsp_at, status_rsp_at, packet_at, det_at, att_prp_at, ul_data_at, dl_data_que_at}
use Rattle.layout.proofs.Lying.{taken_in}

-- the value of a stretch, by its sort
abbrev number_in : Stretch → ℕ
number_in (Stretch.number n p x) = x
number_in (Stretch.high n p x) = x
number_in (Stretch.signed n p z) = 0
number_in (Stretch.real p x) = 0
number_in (Stretch.flag p b) = 0

abbrev id_in : Stretch → ℤ
id_in (Stretch.number n p x) = pos 0
id_in (Stretch.high n p x) = pos 0
id_in (Stretch.signed n p z) = z
id_in (Stretch.real p x) = pos 0
id_in (Stretch.flag p b) = pos 0

abbrev real_in : Stretch → Float
real_in (Stretch.number n p x) = nan
real_in (Stretch.high n p x) = nan
real_in (Stretch.signed n p z) = nan
real_in (Stretch.real p x) = x
real_in (Stretch.flag p b) = nan

abbrev flag_in : Stretch → Bool
flag_in (Stretch.number n p x) = false
flag_in (Stretch.high n p x) = false
flag_in (Stretch.signed n p z) = false
flag_in (Stretch.real p x) = false
flag_in (Stretch.flag p b) = b

module _ (ss : List Stretch) where
  abbrev nth : ℕ → Stretch
  nth k = get_or ss k (Stretch.flag 0 false)

  abbrev num : ℕ → ℕ
  num k = number_in (nth k)

  abbrev id : ℕ → ℤ
  id k = id_in (nth k)

  abbrev real : ℕ → Float
  real k = real_in (nth k)

  abbrev flag : ℕ → Bool
  flag k = flag_in (nth k)

  abbrev sixteen : ℕ → Sixteen
  sixteen k = record { high = num k; low = num (k + 1) }

  abbrev position : ℕ → Position
  position k = record { latitude = real k; longitude = real (k + 1); altitude = real (k + 2) }

  abbrev version : ℕ → Maybe Version
  version k = record { here = flag (k + 3); value = record { major = num k; minor = num (k + 1); patch = num (k + 2) } }

  abbrev maybe_mark : ℕ → Maybe Bool
  maybe_mark k = record { here = flag k; value = flag (k + 1) }

  abbrev con : Con
  con = record {
    version = version 8;
    bs_eui = num 0;
    bidi = flag 12;
    geo_location = record { here = flag 13; value = position 3 };
    sn_bs_uuid = sixteen 6;
    sn_bs_op_id = record { here = flag 14; value = id 1 };
    sn_sc_op_id = record { here = flag 15; value = id 2 };
  }

  abbrev con_rsp : ConRsp
  con_rsp = record { version = version 3; sc_eui = num 0; sn_resume = flag 7; sn_sc_uuid = sixteen 1 }

  abbrev status_rsp : StatusRsp
  status_rsp = record {
    code = id 9;
    message_len = num 10;
    time = num 0;
    duty_cycle = real 2;
    geo_location = record { here = flag 11; value = position 3 };
    uptime = record { here = flag 12; value = num 1 };
    temp = record { here = flag 13; value = real 6 };
    cpu_load = record { here = flag 14; value = real 7 };
    mem_load = record { here = flag 15; value = real 8 };
  }

  abbrev packet : Packet
  packet = record {
    ep_eui = num 0;
    rx_time = num 1;
    rx_duration = record { here = flag 10; value = num 2 };
    packet_cnt = num 8;
    signal = record { snr = real 3; rssi = real 4; eq_snr = record { here = flag 11; value = real 5 } };
    profile_len = num 9;
    profile = sixteen 6;
  }

  abbrev det : Det
  det = record { packet = packet; sign = num 12 }

  abbrev att_prp : AttPrp
  att_prp = record {
    ep_eui = num 0;
    bidi = flag 5;
    nwk_sn_key = sixteen 1;
    sh_addr = num 4;
    last_packet_cnt = num 3;
    dual_chan = flag 6;
    repetition = flag 7;
    wide_carr_off = flag 8;
    long_blk_dist = flag 9;
  }

  abbrev ul_data : UlData
  ul_data = record { packet = packet; user_len = num 12; format = num 13; dl_open = flag 14; response_exp = flag 15; dl_ack = flag 16 }

  abbrev dl_data_que : DlDataQue
  dl_data_que = record {
    ep_eui = num 0;
    que_id = num 1;
    cnt_depend = flag 5;
    entries = num 3;
    format = num 4;
    prio = real 2;
    response_exp = maybe_mark 6;
    response_prio = maybe_mark 8;
    dl_wind_req = maybe_mark 10;
    exp_only = maybe_mark 12;
  }

module _ (d : List ℕ) where
  pub con_of : (x y : Con) → map (taken_in d) (con_lies x) ≡ con_lies y → con_at d ≡ y
  unfolding con_lies con_at
  con_of x y e = ap con e

  pub con_rsp_of : (x y : ConRsp) → map (taken_in d) (con_rsp_lies x) ≡ con_rsp_lies y → con_rsp_at d ≡ y
  unfolding con_rsp_lies con_rsp_at
  con_rsp_of x y e = ap con_rsp e

  pub status_rsp_of : (x y : StatusRsp) → map (taken_in d) (status_rsp_lies x) ≡ status_rsp_lies y → status_rsp_at d ≡ y
  unfolding status_rsp_lies status_rsp_at
  status_rsp_of x y e = ap status_rsp e

  pub det_of : (x y : Det) → map (taken_in d) (det_lies x) ≡ det_lies y → det_at d ≡ y
  unfolding det_lies packet_lies packet_at
  det_of x y e = ap det e

  pub att_prp_of : (x y : AttPrp) → map (taken_in d) (att_prp_lies x) ≡ att_prp_lies y → att_prp_at d ≡ y
  unfolding att_prp_lies att_prp_at
  att_prp_of x y e = ap att_prp e

  pub ul_data_of : (x y : UlData) → map (taken_in d) (ul_data_lies x) ≡ ul_data_lies y → ul_data_at d ≡ y
  unfolding ul_data_lies packet_lies ul_data_at packet_at
  ul_data_of x y e = ap ul_data e

  pub dl_data_que_of : (x y : DlDataQue) → map (taken_in d) (dl_data_que_lies x) ≡ dl_data_que_lies y → dl_data_que_at d ≡ y
  unfolding dl_data_que_lies dl_data_que_at
  dl_data_que_of x y e = ap dl_data_que e
