-- The first field at fault of each command's record is what its tests tell, in their order: field by field, computing each field's row and kind.
-- Assumes nothing.
use mathlib.Core.Path.{◌≡◌, refl, sym, ◌∙◌}
use mathlib.Core.Bool.{Bool, true, not, ◌&&◌, ◌||◌, and-true}
use mathlib.Core.List.{List, [], ◌∷◌}
use Prim.Native.Nat.{ℕ}
use lib.{IntN.ℤ, ListN.length, ListN.get_or, ListN.drop}
use mir.Syntax.{w8}
use mir.Val.{Val, Fits}
use Rattle.std.specs.Prelude.{Option, Some, None}
use Rattle.std.proofs.lemmas.Option.{same_Some, none-some}
use Rattle.octets.specs.Bytes.{IsBytes}
use Rattle.field.specs.Kind.{Kind, unsigned64, unsigned8}
use Rattle.message.specs.Fields.{Field, headed, lists, list_in, fields_of, received}
use Rattle.saying.specs.Says.{Part, Saying, says, part_in}
use Rattle.record.specs.declared.{Packet.Packet, Con.Con, ConRsp.ConRsp, StatusRsp.StatusRsp, Det.Det, AttPrp.AttPrp, UlData.UlData, DlDataQue.DlDataQue, Body.Body}
use Rattle.record.specs.declared.{Message.Message}
use Rattle.record.specs.{Says.is_bare, Says.packet_sayings, Says.body_sayings, Says.sayings_of, Fits.first_fault, Fits.fault_in}
use Rattle.record.proofs.Commands.{Command, command, bare_list}
use Rattle.record.proofs.Commands.Command.{con, con_rsp, status_rsp, det, det_rsp, att_prp, det_prp, ul_data, dl_data_que, bare}
use Rattle.faults.specs.Code.Tests.{fault_unless, or_fault, con_fault, con_rsp_fault, status_fault, packet_fault, ul_data_fault, dl_data_que_fault, bare_fault, body_fault, AtOnce}
use Rattle.faults.proofs.Typed as typed
use Rattle.faults.proofs.Typed.{Typed, Signed, PacketSure, Sure}
use Rattle.faults.proofs.Parts.{name_in, mark_in, real_in_lem, maybe_sure, must_be, unless_in, figure_in, position_in, station_in, centre_in, four_in, sixteen_in, text_lent, bytes_lent, marks_in}
use Rattle.faults.proofs.Tails.{profile_in}
use Rattle.faults.proofs.Downlinks.{counters_in, pieces_in_lem, prio_in}
use Rattle.faults.proofs.Steps.{pass, look, look_on, none_told, clear}

-- a part that must pass a test besides
tested_in : (t fits : Bool) → fits ≡ true → ((t && true) && fits) ≡ t
tested_in t fits e = rw e (and-true (t && true) ∙ and-true t)

-- what is told of a packet, with other fields l behind it
packet_is : (a b : Part) (p : Packet) (rs : List Saying) (l : List Field) (behind : ℕ) → PacketSure p
    → first_fault 10 l (part_in (says "command" a ∷ says "opId" b ∷ packet_sayings p rs)) ≡ behind
    → first_fault 2 (received l) (part_in (says "command" a ∷ says "opId" b ∷ packet_sayings p rs)) ≡ or_fault (packet_fault p) behind
unfolding part_in or_fault
packet_is a b p rs l behind s q =
    pass _ _ _ _ _ s.0
    (pass _ _ _ _ _ s.1
    (look_on _ _ _ _ _ _ _ (maybe_sure [] unsigned64 p.rx_duration.here _ _ s.2)
    (pass _ _ _ _ _ s.3
    (look_on _ _ _ _ _ _ _ (real_in_lem p.signal.snr)
    (look_on _ _ _ _ _ _ _ (real_in_lem p.signal.rssi)
    (look_on _ _ _ _ _ _ _ (figure_in [] p.signal.eq_snr)
    (look_on _ _ _ _ _ 0 behind (profile_in [] p.profile p.profile_len) q)))))))

abbrev fault_for : ℤ → List ℕ → Body → ℕ
fault_for z d b = fault_in (record { op_id = z; body = b }) d

module _ (z : ℤ) (id : Signed 0x7FFFFFFFFFFFFFFF z) (d : List ℕ) where
  con_is : (x : Con) → Sure (Body.Con x) → fault_for z d (Body.Con x) ≡ con_fault x
  unfolding fault_in lists list_in part_in sayings_of body_sayings
  con_is x s =
      pass _ _ _ _ _ (name_in _)
      (pass _ _ _ _ _ id
      (look _ _ _ _ _ _ (must_be [] Kind.versions x.version.here _ _ s.0)
      (pass _ _ _ _ _ s.1
      (pass _ _ _ _ _ (mark_in x.bidi)
      (look _ _ _ _ _ _ (position_in [] x.geo_location)
      (pass _ _ _ _ _ (sixteen_in x.sn_bs_uuid)
      (look _ _ _ _ _ _ (station_in [] x.sn_bs_op_id)
      (look _ _ _ _ _ _ (centre_in [] x.sn_sc_op_id)
      (clear _ _ _ tt)))))))))

  con_rsp_is : (x : ConRsp) → Sure (Body.ConRsp x) → fault_for z d (Body.ConRsp x) ≡ con_rsp_fault x
  unfolding fault_in lists list_in part_in sayings_of body_sayings
  con_rsp_is x s =
      pass _ _ _ _ _ (name_in _)
      (pass _ _ _ _ _ id
      (look _ _ _ _ _ _ (maybe_sure [] Kind.versions x.version.here _ _ s.0)
      (pass _ _ _ _ _ s.1
      (pass _ _ _ _ _ (mark_in x.sn_resume)
      (pass _ _ _ _ _ (sixteen_in x.sn_sc_uuid)
      (clear _ _ _ tt))))))

  status_is : (x : StatusRsp) → Sure (Body.StatusRsp x) → fault_for z d (Body.StatusRsp x) ≡ status_fault x (length d)
  unfolding fault_in lists list_in part_in sayings_of body_sayings
  status_is x s =
      pass _ _ _ _ _ (name_in _)
      (pass _ _ _ _ _ id
      (pass _ _ _ _ _ s.0
      (look _ _ _ _ _ _ (text_lent 64 x.message_len d)
      (pass _ _ _ _ _ s.1
      (look _ _ _ _ _ _ (real_in_lem x.duty_cycle)
      (look _ _ _ _ _ _ (position_in [] x.geo_location)
      (look _ _ _ _ _ _ (maybe_sure [] unsigned64 x.uptime.here _ _ s.2)
      (look _ _ _ _ _ _ (figure_in [] x.temp)
      (look _ _ _ _ _ _ (figure_in [] x.cpu_load)
      (look _ _ _ _ _ _ (figure_in [] x.mem_load)
      (clear _ _ _ tt)))))))))))

  det_rsp_is : (sign : ℕ) → fault_for z d (Body.DetRsp sign) ≡ 0
  unfolding fault_in lists list_in part_in sayings_of body_sayings
  det_rsp_is sign = pass _ _ _ _ _ (name_in _) (pass _ _ _ _ _ id (pass _ _ _ _ _ (four_in sign) (clear _ _ _ tt)))

  att_prp_is : (x : AttPrp) → Sure (Body.AttPrp x) → fault_for z d (Body.AttPrp x) ≡ 0
  unfolding fault_in lists list_in part_in sayings_of body_sayings
  att_prp_is x s =
      pass _ _ _ _ _ (name_in _)
      (pass _ _ _ _ _ id
      (pass _ _ _ _ _ s.0
      (pass _ _ _ _ _ (mark_in x.bidi)
      (pass _ _ _ _ _ (sixteen_in x.nwk_sn_key)
      (pass _ _ _ _ _ s.1
      (pass _ _ _ _ _ s.2
      (pass _ _ _ _ _ (mark_in x.dual_chan)
      (pass _ _ _ _ _ (mark_in x.repetition)
      (pass _ _ _ _ _ (mark_in x.wide_carr_off)
      (pass _ _ _ _ _ (mark_in x.long_blk_dist)
      (clear _ _ _ tt)))))))))))

  det_prp_is : (eui : ℕ) → Sure (Body.DetPrp eui) → fault_for z d (Body.DetPrp eui) ≡ 0
  unfolding fault_in lists list_in part_in sayings_of body_sayings
  det_prp_is eui s = pass _ _ _ _ _ (name_in _) (pass _ _ _ _ _ id (pass _ _ _ _ _ s (clear _ _ _ tt)))

  det_is : (x : Det) → Sure (Body.Det x) → fault_for z d (Body.Det x) ≡ packet_fault x.packet
  unfolding fault_in lists list_in part_in sayings_of body_sayings
  det_is x s =
      pass _ _ _ _ _ (name_in _)
      (pass _ _ _ _ _ id
      (packet_is _ _ x.packet (drop 8 (body_sayings (Body.Det x) d)) _ 0 s (pass _ _ _ _ _ (four_in x.sign) (clear _ _ _ tt))))
      ∙ none_told (packet_fault x.packet)

  ul_data_is : IsBytes d → (x : UlData) → Sure (Body.UlData x) → fault_for z d (Body.UlData x) ≡ ul_data_fault x (length d)
  unfolding fault_in lists list_in part_in sayings_of body_sayings
  ul_data_is b x s =
      pass _ _ _ _ _ (name_in _)
      (pass _ _ _ _ _ id
      (packet_is _ _ x.packet (drop 8 (body_sayings (Body.UlData x) d)) _ _ s.0
      (look _ _ _ _ _ _ (bytes_lent 245 x.user_len d b)
      (pass _ _ _ _ _ (unless_in [] unsigned8 x.format s.1)
      (pass _ _ _ _ _ (mark_in x.dl_open)
      (look _ _ _ _ _ _ (tested_in (not x.response_exp || x.dl_open) _ (mark_in x.response_exp))
      (pass _ _ _ _ _ (mark_in x.dl_ack)
      (clear _ _ _ tt))))))))

  dl_data_que_is : IsBytes d → (x : DlDataQue) → Sure (Body.DlDataQue x) → fault_for z d (Body.DlDataQue x) ≡ dl_data_que_fault x d
  unfolding fault_in part_in sayings_of body_sayings
  dl_data_que_is b x s =
      pass _ _ _ _ _ (name_in _)
      (pass _ _ _ _ _ id
      (pass _ _ _ _ _ s.0
      (pass _ _ _ _ _ s.1
      (pass _ _ _ _ _ (mark_in x.cnt_depend)
      (look _ _ _ _ _ _ (counters_in [] x d b)
      (look _ _ _ _ _ _ (pieces_in_lem x.entries d b)
      (pass _ _ _ _ _ (unless_in [] unsigned8 x.format s.2)
      (look _ _ _ _ _ _ (prio_in [] x.prio)
      (look _ _ _ _ _ _ (marks_in [] x.response_exp)
      (look _ _ _ _ _ _ (marks_in [] x.response_prio)
      (look _ _ _ _ _ _ (marks_in [] x.dl_wind_req)
      (look _ _ _ _ _ _ (marks_in [] x.exp_only)
      (clear _ _ _ tt)))))))))))))

  bare_more : (c : ℕ) → fields_of c ≡ headed [] → fault_for z d (Body.Bare c) ≡ bare_fault c
  unfolding fault_in part_in sayings_of body_sayings
  bare_more c e = rw e (look _ _ _ _ _ _ (tested_in (is_bare c) _ (name_in _)) (pass _ _ _ _ _ id (clear _ _ _ tt)))

  -- nine commands have lists of their own, each with `command` first; the others have nothing more
  bare_is : {c : ℕ} → Command c → fault_for z d (Body.Bare c) ≡ bare_fault c
  unfolding fault_in first_fault fault_unless lists list_in part_in sayings_of body_sayings
  bare_is con = refl
  bare_is con_rsp = refl
  bare_is status_rsp = refl
  bare_is det = refl
  bare_is det_rsp = refl
  bare_is att_prp = refl
  bare_is det_prp = refl
  bare_is ul_data = refl
  bare_is dl_data_que = refl
  bare_is (bare {c} past other) = bare_more c (bare_list past other)

  body_is : IsBytes d → (b : Body) → Sure b → fault_for z d b ≡ body_fault b d
  unfolding body_fault
  body_is bytes (Body.Con x) s = con_is x s
  body_is bytes (Body.ConRsp x) s = con_rsp_is x s
  body_is bytes (Body.StatusRsp x) s = status_is x s
  body_is bytes (Body.Det x) s = det_is x s
  body_is bytes (Body.DetRsp sign) s = det_rsp_is sign
  body_is bytes (Body.AttPrp x) s = att_prp_is x s
  body_is bytes (Body.DetPrp eui) s = det_prp_is eui s
  body_is bytes (Body.UlData x) s = ul_data_is bytes x s
  body_is bytes (Body.DlDataQue x) s = dl_data_que_is bytes x s
  body_is bytes (Body.Bare c) s = bare_is (command c)

-- each in the shape of a need of `fault`
module _ (m : Message) (vs : List Val) (g : Typed m vs) (d : List ℕ) (bytes : (k : ℕ) → Fits w8 (get_or d k 0)) (r : ℕ) where
  pub by_fields : r ≡ body_fault m.body d → r ≡ fault_in m d
  by_fields e = e ∙ sym (body_is m.op_id (typed.op_id m vs g) d (λ k. (bytes k).fits) m.body (typed.body m vs g))

  pub by_name : (o : Option ℕ) → AtOnce m.body o → o ≡ Some r → r ≡ fault_in m d
  by_name o a e = by_fields (a.told d r e)

pub ruleset whole = (by_fields, by_name)

-- in the shape of a need of `at_once`
pub of_name : (b : Body) (c r : ℕ) → b ≡ Body.Bare c → r ≡ bare_fault c → AtOnce b (Some r)
unfolding body_fault
of_name b c r e f = record { told = λ d n g. let z : r ≡ n = same_Some r n g in rw (← z, e) f }

pub of_fields : (b : Body) → AtOnce b None
of_fields b = record { told = λ d n g. absurd (none-some n g) }

-- each in the shape of a need of `body_fault`
module _ (b : Body) (d : List ℕ) (r : ℕ) where
  pub of_con : (x : Con) → b ≡ Body.Con x → r ≡ con_fault x → r ≡ body_fault b d
  unfolding body_fault
  of_con x e f = rw e f

  pub of_con_rsp : (x : ConRsp) → b ≡ Body.ConRsp x → r ≡ con_rsp_fault x → r ≡ body_fault b d
  unfolding body_fault
  of_con_rsp x e f = rw e f

  pub of_status_rsp : (x : StatusRsp) → b ≡ Body.StatusRsp x → r ≡ status_fault x (length d) → r ≡ body_fault b d
  unfolding body_fault
  of_status_rsp x e f = rw e f

  pub of_det : (x : Det) → b ≡ Body.Det x → r ≡ packet_fault x.packet → r ≡ body_fault b d
  unfolding body_fault
  of_det x e f = rw e f

  pub of_det_rsp : (sign : ℕ) → b ≡ Body.DetRsp sign → r ≡ 0 → r ≡ body_fault b d
  unfolding body_fault
  of_det_rsp sign e f = rw e f

  pub of_att_prp : (x : AttPrp) → b ≡ Body.AttPrp x → r ≡ 0 → r ≡ body_fault b d
  unfolding body_fault
  of_att_prp x e f = rw e f

  pub of_det_prp : (eui : ℕ) → b ≡ Body.DetPrp eui → r ≡ 0 → r ≡ body_fault b d
  unfolding body_fault
  of_det_prp eui e f = rw e f

  pub of_ul_data : (x : UlData) → b ≡ Body.UlData x → r ≡ ul_data_fault x (length d) → r ≡ body_fault b d
  unfolding body_fault
  of_ul_data x e f = rw e f

  pub of_dl_data_que : (x : DlDataQue) → b ≡ Body.DlDataQue x → r ≡ dl_data_que_fault x d → r ≡ body_fault b d
  unfolding body_fault
  of_dl_data_que x e f = rw e f

  pub of_bare : (c : ℕ) → b ≡ Body.Bare c → r ≡ bare_fault c → r ≡ body_fault b d
  unfolding body_fault
  of_bare c e f = rw e f

pub ruleset bodies = (of_con, of_con_rsp, of_status_rsp, of_det, of_det_rsp, of_att_prp, of_det_prp, of_ul_data, of_dl_data_que, of_bare)
