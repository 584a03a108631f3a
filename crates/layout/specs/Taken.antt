-- The record that lies in memory: what stands at the places of its command's fields. The other bytes are not looked at.
use Rattle.std.specs.Prelude.{ℕ, zero, suc, ◌+◌, ◌*◌, Bool, true, ◌&&◌, not, List, [], ◌∷◌, ◌++◌}
use lib.{Dec.eqb, Dec.ltb, IntN.ℤ, Ieee.Float, Ieee.binary64, Ieee.of_bits, ListN.get_or}
use Rattle.octets.specs.{Choice.either, Number.little_at, Number.big_at, Number.if_there, Signed.signed_of}
use Rattle.field.specs.declared.Position.{Position}
use Rattle.names.specs.Names.{if_downlink}
use Rattle.message.specs.declared.{Maybe.Maybe, Version.Version, Signal.Signal}
use Rattle.record.specs.declared.{Sixteen.Sixteen, Con.Con, ConRsp.ConRsp, StatusRsp.StatusRsp, Packet.Packet, Det.Det, AttPrp.AttPrp, UlData.UlData}
use Rattle.record.specs.declared.{DlDataQue.DlDataQue, Body.Body, Message.Message}
use Rattle.record.specs.Record.{body_in}

-- the places from p on
abbrev pub places : ℕ → ℕ → List ℕ
places p zero = []
places p (suc n) = p ∷ places (p + 1) n

-- where each command's marks lie, document 01's in the order of `commands`
abbrev pub mark_places : List (List ℕ)
mark_places = places 86 5 ∷ places 46 2 ∷ places 93 5 ∷ places 85 2 ∷ [] ∷ places 46 5 ∷ [] ∷ (places 85 2 ++ places 90 3) ∷ []

abbrev pub marks_of : ℕ → List ℕ
marks_of c = if_downlink c (places 42 9) (get_or mark_places c [])

module _ (d : List ℕ) where
  -- a number of n bytes, little or big endian; 0 where they are not all there
  abbrev pub number_at : ℕ → ℕ → ℕ
  number_at n p = if_there d p n (little_at d p n)

  abbrev pub high_at : ℕ → ℕ → ℕ
  high_at n p = if_there d p n (big_at d p n)

  abbrev pub signed_at : ℕ → ℕ → ℤ
  signed_at n p = signed_of (8 * n) (number_at n p)

  abbrev pub real_at : ℕ → Float
  real_at p = of_bits binary64 (number_at 8 p)

  abbrev pub flag_at : ℕ → Bool
  flag_at p = not (eqb (number_at 1 p) 0)

  unfoldable pub are_marks : List ℕ → Bool
  are_marks [] = true
  are_marks (p ∷ ps) = ltb (number_at 1 p) 2 && are_marks ps

  abbrev pub sixteen_at : ℕ → Sixteen
  sixteen_at p = record { high = high_at 8 p; low = high_at 8 (p + 8) }

  abbrev pub position_at : ℕ → Position
  position_at p = record { latitude = real_at p; longitude = real_at (p + 8); altitude = real_at (p + 16) }

  abbrev pub version_at : ℕ → Maybe Version
  version_at p = record { here = flag_at (p + 6); value = record { major = number_at 2 p; minor = number_at 2 (p + 2); patch = number_at 2 (p + 4) } }

  unfoldable pub con_at : Con
  con_at = record {
    version = version_at 80;
    bs_eui = number_at 8 16;
    bidi = flag_at 87;
    geo_location = record { here = flag_at 88; value = position_at 40 };
    sn_bs_uuid = sixteen_at 64;
    sn_bs_op_id = record { here = flag_at 89; value = signed_at 8 24 };
    sn_sc_op_id = record { here = flag_at 90; value = signed_at 8 32 };
  }

  unfoldable pub con_rsp_at : ConRsp
  con_rsp_at = record { version = version_at 40; sc_eui = number_at 8 16; sn_resume = flag_at 47; sn_sc_uuid = sixteen_at 24 }

  unfoldable pub status_rsp_at : StatusRsp
  status_rsp_at = record {
    code = signed_at 4 88;
    message_len = number_at 1 92;
    time = number_at 8 16;
    duty_cycle = real_at 32;
    geo_location = record { here = flag_at 93; value = position_at 40 };
    uptime = record { here = flag_at 94; value = number_at 8 24 };
    temp = record { here = flag_at 95; value = real_at 64 };
    cpu_load = record { here = flag_at 96; value = real_at 72 };
    mem_load = record { here = flag_at 97; value = real_at 80 };
  }

  abbrev pub signal_at : Signal
  signal_at = record { snr = real_at 40; rssi = real_at 48; eq_snr = record { here = flag_at 86; value = real_at 56 } }

  unfoldable pub packet_at : Packet
  packet_at = record {
    ep_eui = number_at 8 16;
    rx_time = number_at 8 24;
    rx_duration = record { here = flag_at 85; value = number_at 8 32 };
    packet_cnt = number_at 4 80;
    signal = signal_at;
    profile_len = number_at 1 84;
    profile = sixteen_at 64;
  }

  abbrev pub det_at : Det
  det_at = record { packet = packet_at; sign = high_at 4 88 }

  unfoldable pub att_prp_at : AttPrp
  att_prp_at = record {
    ep_eui = number_at 8 16;
    bidi = flag_at 46;
    nwk_sn_key = sixteen_at 24;
    sh_addr = number_at 2 44;
    last_packet_cnt = number_at 4 40;
    dual_chan = flag_at 47;
    repetition = flag_at 48;
    wide_carr_off = flag_at 49;
    long_blk_dist = flag_at 50;
  }

  unfoldable pub ul_data_at : UlData
  ul_data_at = record { packet = packet_at; user_len = number_at 1 88; format = number_at 1 89; dl_open = flag_at 90; response_exp = flag_at 91; dl_ack = flag_at 92 }

  abbrev pub maybe_mark_at : ℕ → Maybe Bool
  maybe_mark_at p = record { here = flag_at p; value = flag_at (p + 1) }

  unfoldable pub dl_data_que_at : DlDataQue
  dl_data_que_at = record {
    ep_eui = number_at 8 16;
    que_id = number_at 8 24;
    cnt_depend = flag_at 42;
    entries = number_at 1 40;
    format = number_at 1 41;
    prio = real_at 32;
    response_exp = maybe_mark_at 43;
    response_prio = maybe_mark_at 45;
    dl_wind_req = maybe_mark_at 47;
    exp_only = maybe_mark_at 49;
  }

  -- document 01's, in the order of `commands`
  abbrev pub bodies_at : List Body
  bodies_at =
      Body.Con con_at ∷
      Body.ConRsp con_rsp_at ∷
      Body.StatusRsp status_rsp_at ∷
      Body.Det det_at ∷
      Body.DetRsp (high_at 4 16) ∷
      Body.AttPrp att_prp_at ∷
      Body.DetPrp (number_at 8 16) ∷
      Body.UlData ul_data_at ∷
      []

  abbrev pub whole_at : ℕ → Body
  whole_at c = if_downlink c (Body.DlDataQue dl_data_que_at) (body_in bodies_at c c)

  -- a mark that is neither 0 nor 1 makes it a record without its command's fields, which is refused with 15 wherever a record is judged
  unfoldable pub body_at : ℕ → Body
  body_at c = either (are_marks (marks_of c)) (λ _. whole_at c) (λ _. Body.Bare c)

unfoldable pub message_at : List ℕ → Message
message_at d = record { op_id = signed_at d 8 0; body = body_at d (number_at d 1 8) }
