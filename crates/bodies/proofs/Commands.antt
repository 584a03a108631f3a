-- Each command's fields one after the other are its list: each law in the shape of a need of the code. Assumes nothing.
use mathlib.Core.{Path.◌≡◌, List.List}
use mathlib.Core.Bool.{true, false}
use Prim.Native.Nat.{ℕ, suc, ◌+◌, max}
use native.Mathlib.Omega.{arith}
use lib.{IntN.ℤ, ListN.get_or}
use mir.Syntax.{w32}
use mir.Val.{SFits, of_z, to_z}
use mir.ValLaws.{to_z-of_z}
use Rattle.names.specs.{Names.place_in, Code.Slots.keys, Code.Slots.slot_of}
use Rattle.field.specs.Kind.{Kind, unsigned64, unsigned32, unsigned16, unsigned8, signed32, station_id, centre_id, bytes16, bytes4, user_bytes, profile_text, status_text}
use Rattle.field.specs.{Cell.Cell, Cell.here, Code.At.cell_at, Code.Into.read_into}
use Rattle.message.specs.{Fields.described, Fields.lists, Fields.list_in, Code.Cells.cells_at}
use Rattle.message.specs.Record.{word_in, id_in, mark_in}
use Rattle.message.specs.Record.{figure_in, maybe_of, position_in, version_in}
use Rattle.message.specs.declared.{Maybe.Maybe, Version.Version}
use Rattle.field.specs.declared.Position.{Position}
use lib.Ieee.{Float}
use mathlib.Core.Bool.{Bool}
use Rattle.message.specs.Reading.{gravest, look_in, place_among}
use Rattle.record.specs.declared.{Sixteen.Sixteen, Packet.Packet, Body.Body}
use Rattle.record.specs.Record.{four_in, sixteen_in, body_in}
use Rattle.bodies.specs.declared.{Held.Held, Profile.Profile}
use Rattle.bodies.specs.Code.Held.{judged_as, held_as, profile_in}
use Rattle.bodies.specs.Code.Read.{plain_of, packet_as, Bodying, bodying, crossed_by, bodied_of}

no_more : (x : ℕ) → max x 0 ≡ x
no_more x = omega arith

module _ (s at : List ℕ) where
  -- the cell of a kind whose key has a slot
  abbrev on : Kind → ℕ → Cell
  on k slot = cell_at k s (get_or at slot 0)

  pub described_is : (i w a b c d r : ℕ) → a ≡ judged_as false i (on Kind.words 9) w → b ≡ judged_as false (i + 1) (on Kind.words 10) a → c ≡ judged_as false (i + 2) (on Kind.words 11) b
      → d ≡ judged_as false (i + 3) (on Kind.words 12) c → r ≡ judged_as false (i + 4) (on Kind.maps 13) d → r ≡ gravest w i described (cells_at described s at)
  unfolding judged_as gravest cells_at slot_of place_in keys
  described_is i w a b c d r p q x y z =
      let i1 : i + 1 ≡ suc i = omega arith in
      let i2 : i + 2 ≡ suc (suc i) = omega arith in
      let i3 : i + 3 ≡ suc (suc (suc i)) = omega arith in
      let i4 : i + 4 ≡ suc (suc (suc (suc i))) = omega arith in
      rw (z, y, x, q, p, i1, i2, i3, i4)

  pub con_is : (w : ℕ) (a : Held (Maybe Version)) (b : Held (Maybe ℕ)) (c : Held (Maybe Bool)) (d : Held (Maybe Position)) (e : Held Sixteen) (f g : Held (Maybe ℤ)) (x : ℕ)
      → a ≡ held_as (maybe_of version_in) true 2 (on Kind.versions 2) w → b ≡ held_as (maybe_of word_in) true 3 (on unsigned64 3) a.worst → c ≡ held_as (maybe_of mark_in) true 4 (on Kind.flags 4) b.worst
      → d ≡ held_as (maybe_of position_in) false 5 (on Kind.positions 5) c.worst → e ≡ held_as sixteen_in true 6 (on bytes16 6) d.worst → f ≡ held_as (maybe_of id_in) false 7 (on station_id 7) e.worst
      → g ≡ held_as (maybe_of id_in) false 8 (on centre_id 8) f.worst → x ≡ gravest g.worst 9 described (cells_at described s at)
      → ◌≡◌ {A = Held Body}
      (record {
        worst = x;
        value = Body.Con (record { version = a.value; bs_eui = b.value.value; bidi = c.value.value; geo_location = d.value; sn_bs_uuid = e.value; sn_bs_op_id = f.value; sn_sc_op_id = g.value });
      })
      (plain_of s at 0 w)
  unfolding plain_of judged_as held_as gravest cells_at lists list_in look_in body_in slot_of place_in keys
  con_is w a b c d e f g x pa pb pc pd pe pf pg px = rw (px, pg, pf, pe, pd, pc, pb, pa)

  pub con_rsp_is : (w : ℕ) (a : Held (Maybe Version)) (b : Held (Maybe ℕ)) (c : Held (Maybe Bool)) (d : Held Sixteen) (x : ℕ)
      → a ≡ held_as (maybe_of version_in) false 2 (on Kind.versions 2) w → b ≡ held_as (maybe_of word_in) true 3 (on unsigned64 14) a.worst → c ≡ held_as (maybe_of mark_in) true 4 (on Kind.flags 15) b.worst
      → d ≡ held_as sixteen_in true 5 (on bytes16 16) c.worst → x ≡ gravest d.worst 6 described (cells_at described s at)
      → ◌≡◌ {A = Held Body}
      (record { worst = x; value = Body.ConRsp (record { version = a.value; sc_eui = b.value.value; sn_resume = c.value.value; sn_sc_uuid = d.value }) })
      (plain_of s at 1 w)
  unfolding plain_of judged_as held_as gravest cells_at lists list_in look_in body_in slot_of place_in keys
  con_rsp_is w a b c d x pa pb pc pd px = rw (px, pd, pc, pb, pa)

  pub status_is : (w : ℕ) (a : Held ℤ) (b : Held ℕ) (c : Held (Maybe ℕ)) (d : Held (Maybe Float)) (e : Held (Maybe Position)) (f : Held (Maybe ℕ)) (g h i : Held (Maybe Float)) (x : ℕ) → SFits w32 a.value
      → a ≡ held_as id_in true 2 (on signed32 17) w → b ≡ held_as word_in true 3 (on status_text 18) a.worst → c ≡ held_as (maybe_of word_in) true 4 (on unsigned64 19) b.worst
      → d ≡ held_as (maybe_of figure_in) true 5 (on Kind.reals 20) c.worst → e ≡ held_as (maybe_of position_in) false 6 (on Kind.positions 5) d.worst → f ≡ held_as (maybe_of word_in) false 7 (on unsigned64 21) e.worst
      → g ≡ held_as (maybe_of figure_in) false 8 (on Kind.reals 22) f.worst → h ≡ held_as (maybe_of figure_in) false 9 (on Kind.reals 23) g.worst → i ≡ held_as (maybe_of figure_in) false 10 (on Kind.reals 24) h.worst
      → x ≡ judged_as false 11 (on Kind.maps 25) i.worst
      → ◌≡◌ {A = Held Body}
      (record {
        worst = x;
        value =
            Body.StatusRsp
            (record { code = to_z w32 (of_z w32 a.value); message_len = b.value; time = c.value.value; duty_cycle = d.value.value; geo_location = e.value; uptime = f.value; temp = g.value; cpu_load = h.value; mem_load = i.value });
      })
      (plain_of s at 2 w)
  unfolding plain_of judged_as held_as gravest cells_at lists list_in look_in body_in slot_of place_in keys
  status_is w a b c d e f g h i x fit pa pb pc pd pe pf pg ph pi px = rw (to_z-of_z w32 a.value fit, px, pi, ph, pg, pf, pe, pd, pc, pb, pa)

  pub packet_is : (w : ℕ) (a b c : Held (Maybe ℕ)) (d : Held ℕ) (e f g : Held (Maybe Float)) (h : Held Profile)
      → a ≡ held_as (maybe_of word_in) true 2 (on unsigned64 26) w → b ≡ held_as (maybe_of word_in) true 3 (on unsigned64 27) a.worst → c ≡ held_as (maybe_of word_in) false 4 (on unsigned64 28) b.worst
      → d ≡ held_as word_in true 5 (on unsigned32 29) c.worst → e ≡ held_as (maybe_of figure_in) true 6 (on Kind.reals 30) d.worst → f ≡ held_as (maybe_of figure_in) true 7 (on Kind.reals 31) e.worst
      → g ≡ held_as (maybe_of figure_in) false 8 (on Kind.reals 32) f.worst → h ≡ held_as profile_in false 9 (on profile_text 33) g.worst
      → ◌≡◌ {A = Held Packet}
      (record {
        worst = h.worst;
        value = record {
          ep_eui = a.value.value;
          rx_time = b.value.value;
          rx_duration = c.value;
          packet_cnt = d.value;
          signal = record { snr = e.value.value; rssi = f.value.value; eq_snr = g.value };
          profile_len = h.value.len;
          profile = h.value.text;
        };
      })
      (packet_as s at w)
  unfolding packet_as judged_as held_as gravest cells_at lists list_in look_in slot_of place_in keys
  packet_is w a b c d e f g h pa pb pc pd pe pf pg ph = rw (ph, pg, pf, pe, pd, pc, pb, pa)

  module _ (w : ℕ) (p : Held Packet) (pp : p ≡ packet_as s at w) where
    pub det_is : (a : Held ℕ) (x : ℕ) → a ≡ held_as four_in true 10 (on bytes4 34) p.worst → x ≡ judged_as false 11 (on Kind.maps 35) a.worst
        → ◌≡◌ {A = Held Body} (record { worst = x; value = Body.Det (record { packet = p.value; sign = a.value }) }) (plain_of s at 3 w)
    unfolding plain_of packet_as judged_as held_as gravest cells_at lists list_in look_in body_in slot_of place_in keys
    det_is a x pa px = rw (px, pa, pp)

    pub ul_data_is : (user room : List ℕ) (a b : Held ℕ) (c d e : Held (Maybe Bool)) (f g x y : ℕ)
        → room ≡ read_into s (get_or at 43 0) user → a ≡ held_as word_in true 10 (on user_bytes 43) p.worst → b ≡ held_as word_in false 11 (on unsigned8 44) a.worst
        → c ≡ held_as (maybe_of mark_in) true 12 (on Kind.flags 45) b.worst → d ≡ held_as (maybe_of mark_in) true 13 (on Kind.flags 46) c.worst → e ≡ held_as (maybe_of mark_in) true 14 (on Kind.flags 47) d.worst
        → f ≡ judged_as false 15 (on Kind.words 48) e.worst → g ≡ judged_as false 16 (on Kind.maps 35) f → x ≡ crossed_by d.value.value c.value.here c.value.value → y ≡ max g x
        → ◌≡◌ {A = Bodying}
        (bodying
        (record { worst = y; value = Body.UlData (record { packet = p.value; user_len = a.value; format = b.value; dl_open = c.value.value; response_exp = d.value.value; dl_ack = e.value.value }) })
        room)
        (bodied_of s at 7 user w)
    unfolding bodied_of plain_of packet_as judged_as held_as crossed_by gravest cells_at lists list_in look_in place_among body_in slot_of place_in keys
    ul_data_is user room a b c d e f g x y pr pa pb pc pd pe pf pg px py =
        let o = on Kind.flags 45 in
        rw (py, px, pg, pf, pe, pd, pc, pb, pa, pp, pr, no_more (crossed_by (mark_in (on Kind.flags 46)) (here o) (mark_in o)))

  pub det_rsp_is : (w : ℕ) (a : Held ℕ) → a ≡ held_as four_in true 2 (on bytes4 34) w → ◌≡◌ {A = Held Body} (record { worst = a.worst; value = Body.DetRsp a.value }) (plain_of s at 4 w)
  unfolding plain_of judged_as held_as gravest cells_at lists list_in look_in body_in slot_of place_in keys
  det_rsp_is w a pa = rw pa

  pub att_prp_is : (w : ℕ) (a : Held (Maybe ℕ)) (b : Held (Maybe Bool)) (c : Held Sixteen) (d : Held ℕ) (e : Held ℕ) (f g h i : Held (Maybe Bool))
      → a ≡ held_as (maybe_of word_in) true 2 (on unsigned64 26) w → b ≡ held_as (maybe_of mark_in) true 3 (on Kind.flags 4) a.worst → c ≡ held_as sixteen_in true 4 (on bytes16 36) b.worst
      → d ≡ held_as word_in true 5 (on unsigned16 37) c.worst → e ≡ held_as word_in true 6 (on unsigned32 38) d.worst → f ≡ held_as (maybe_of mark_in) true 7 (on Kind.flags 39) e.worst
      → g ≡ held_as (maybe_of mark_in) true 8 (on Kind.flags 40) f.worst → h ≡ held_as (maybe_of mark_in) true 9 (on Kind.flags 41) g.worst → i ≡ held_as (maybe_of mark_in) true 10 (on Kind.flags 42) h.worst
      → ◌≡◌ {A = Held Body}
      (record {
        worst = i.worst;
        value =
            Body.AttPrp
            (record { ep_eui = a.value.value; bidi = b.value.value; nwk_sn_key = c.value; sh_addr = d.value; last_packet_cnt = e.value; dual_chan = f.value.value; repetition = g.value.value; wide_carr_off = h.value.value; long_blk_dist = i.value.value });
      })
      (plain_of s at 5 w)
  unfolding plain_of judged_as held_as gravest cells_at lists list_in look_in body_in slot_of place_in keys
  att_prp_is w a b c d e f g h i pa pb pc pd pe pf pg ph pi = rw (pi, ph, pg, pf, pe, pd, pc, pb, pa)

  pub det_prp_is : (w : ℕ) (a : Held (Maybe ℕ)) → a ≡ held_as (maybe_of word_in) true 2 (on unsigned64 26) w → ◌≡◌ {A = Held Body} (record { worst = a.worst; value = Body.DetPrp a.value.value }) (plain_of s at 6 w)
  unfolding plain_of judged_as held_as gravest cells_at lists list_in look_in body_in slot_of place_in keys
  det_prp_is w a pa = rw pa
