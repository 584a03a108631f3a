-- While waiting and connecting: what each branch of the code leaves is what the rule says of the session in the bytes. Each law in the shape of a need
-- of the code. Assumes nothing.
use mathlib.Core.Path.{◌≡◌, sym, ap, ◌∙◌}
use mathlib.Core.Bool.{Bool, true, false, not, ◌&&◌, ◌||◌}
use mathlib.Core.{List.List, List.[], Option.none}
use Prim.Native.Nat.{ℕ, ◌<◌}
use native.Mathlib.Omega.{arith}
use lib.{Dec.eqb, IntN.ℤ, IntN.pos, Seq.take_all, Signed.mag}
use lib.ListN.{length, set, take, drop}
use mir.Syntax.{w64}
use mir.Val.{SFits, to_z, of_z}
use mir.ValLaws.{to_z-of_z}
use borrow.Author.Tests.{eq-eqb, ne_eqb}
use Rattle.octets.proofs.Reading.{Told, is_bytes}
use Rattle.names.specs.Names.{commands, place_in, command_of}
use Rattle.record.specs.declared.{Sixteen.Sixteen, Con.Con, Body.Body, Message.Message}
use Rattle.record.specs.{Record.sixteen_of, Says.sixteen_bytes, Written.frame_for}
use Rattle.writer.specs.Write.{Sent, sent, framed}
use Rattle.session.specs.{Session.Host, Place.same_id, Image.session_image, Image.session_at}
use Rattle.session.specs.Arrive.{Outcome, con_rsp_with, resumes, resumed, begun, begun_with, con_in, or_outcome, takes_con, in_waiting, opened, in_connecting}
use Rattle.steps.specs.Code.Lies.{Lies}
use Rattle.steps.specs.Called.{Answer, Called, called, refused_as, done_as, called_by, host_of}
use Rattle.steps.proofs.{Tests.both_set, Tests.not_both, Storing.now_connecting, Storing.now_open, Searching.zero_bits, Sixteens.sixteen_again}
use Rattle.steps.proofs.Calls.{HandsOn, by_outcome, refused_call, silent_call, sent_call, unsent_call}
use Rattle.std.specs.Prelude.{Ok, Err}
use Rattle.refusal.specs.declared.Refusal.{Refusal}
use Rattle.refusal.specs.declared.Refusal.TheVariants as refusal
use Rattle.session.specs.declared.Happened.TheVariants as happened

-- conCmp
module _ (d room : List ℕ) (k : ℕ) (z : ℤ) (g : SFits w64 z) (r : Answer) where
  same : eqb k 8 && same_id z (pos 0) ≡ eqb k 8 && eqb (of_z w64 z) 0
  same = ap (λ (b : Bool). eqb k 8 && b) (sym (zero_bits z g.sfits))

  pub con_opened : Lies d → eqb k 8 && eqb (of_z w64 z) 0 ≡ true → r ≡ done_as happened.Opened 0 → ◌≡◌ {A = Called} (called r (set d 344 2) room) (called_by d room (in_connecting (session_at d) k z))
  unfolding in_connecting command_of commands place_in
  con_opened l h p = silent_call d room (in_connecting (session_at d) k z) r happened.Opened (opened (session_at d)) _ p (now_open d l) (simp (same ∙ h))

  pub con_not_opened : eqb k 8 && eqb (of_z w64 z) 0 ≡ false → r ≡ refused_as refusal.State → ◌≡◌ {A = Called} (called r d room) (called_by d room (in_connecting (session_at d) k z))
  unfolding in_connecting command_of commands place_in
  con_not_opened h p = refused_call d room (in_connecting (session_at d) k z) r refusal.State p (simp (same ∙ h))

-- con that resumes: the reply has the session's own UUID
module _ (d room : List ℕ) (eui : ℕ) (own : Sixteen) (t : own ≡ sixteen_of (take 16 (drop 328 d))) (m : Message) (b : m ≡ con_rsp_with eui true own)
    (after : List ℕ) where
  abbrev again : Outcome
  again = Outcome.replies happened.Resumed (resumed (session_at d)) (con_rsp_with eui true (sixteen_of (session_at d).sn_sc_uuid)) []

  again_is : again ≡ Outcome.replies happened.Resumed (resumed (session_at d)) m []
  unfolding session_at
  again_is = ap (λ (y : Message). Outcome.replies happened.Resumed (resumed (session_at d)) y []) (sym (b ∙ ap (con_rsp_with eui true) t))

  pub resume_unsent : (r : Answer) (k : Refusal) → ◌≡◌ {A = Sent} (sent (Err k) after) (framed (frame_for m []) room) → HandsOn r k → ◌≡◌ {A = Called} (called r d after) (called_by d room again)
  resume_unsent r k w q = unsent_call d room _ happened.Resumed (resumed (session_at d)) m [] again_is after r k w q

  pub resume_sent : Lies d → (n : ℕ) → ◌≡◌ {A = Sent} (sent (Ok n) after) (framed (frame_for m []) room) → ◌≡◌ {A = Called} (called (done_as happened.Resumed n) (set d 344 1) after) (called_by d room again)
  resume_sent l n w = sent_call d room _ happened.Resumed (resumed (session_at d)) m [] again_is after n w _ (now_connecting d l)

-- con that begins anew: the reply has the host's UUID, and so has the session
module _ (d room uuid : List ℕ) (n : length uuid ≡ 16) (eui : ℕ) (own : Sixteen) (t : own ≡ sixteen_of (take 16 (drop 0 uuid))) (con : Con) (m : Message) (b : m ≡ con_rsp_with eui false own)
    (after : List ℕ) where
  own_is : own ≡ sixteen_of uuid
  own_is = t ∙ ap sixteen_of (take_all 16 uuid (omega arith))

  abbrev anew : Outcome
  anew = Outcome.replies happened.Begun (begun (host_of eui uuid []) con) (con_rsp_with eui false (sixteen_of uuid)) []

  anew_is : anew ≡ Outcome.replies happened.Begun (begun (host_of eui uuid []) con) m []
  anew_is = ap (λ (y : Message). Outcome.replies happened.Begun (begun (host_of eui uuid []) con) y []) (sym (b ∙ ap (con_rsp_with eui false) own_is))

  pub anew_unsent : (r : Answer) (k : Refusal) → ◌≡◌ {A = Sent} (sent (Err k) after) (framed (frame_for m []) room) → HandsOn r k → ◌≡◌ {A = Called} (called r d after) (called_by d room anew)
  anew_unsent r k w q = unsent_call d room _ happened.Begun (begun (host_of eui uuid []) con) m [] anew_is after r k w q

  pub anew_sent : Told uuid → (k : ℕ) → ◌≡◌ {A = Sent} (sent (Ok k) after) (framed (frame_for m []) room) → (f : List ℕ) → f ≡ session_image (begun_with con.bs_eui (sixteen_bytes con.sn_bs_uuid) (sixteen_bytes own))
      → ◌≡◌ {A = Called} (called (done_as happened.Begun k) f after) (called_by d room anew)
  anew_sent v k w f q =
      let e : sixteen_bytes own ≡ uuid = ap sixteen_bytes own_is ∙ sixteen_again uuid (is_bytes uuid v) n in
      sent_call d room _ happened.Begun (begun (host_of eui uuid []) con) m [] anew_is after k w f
      (q ∙ ap (λ (l : List ℕ). session_image (begun_with con.bs_eui (sixteen_bytes con.sn_bs_uuid) l)) e)

-- a con: its ID, its version, and whether it resumes
module _ (d room : List ℕ) (z : ℤ) (g : SFits w64 z) (x : Con) (h : Host) where
  abbrev takes : Outcome
  takes = takes_con (session_at d) z x h

  pub con_other_id : (r : Answer) → (of_z w64 z ≡ 0 → ⊥) → r ≡ refused_as refusal.IdOutOfOrder → ◌≡◌ {A = Called} (called r d room) (called_by d room takes)
  con_other_id r e p = refused_call d room takes r refusal.IdOutOfOrder p (simp (sym (zero_bits z g.sfits) ∙ ne_eqb (of_z w64 z) 0 e))

  module _ (e : of_z w64 z ≡ 0) where
    zero_id : same_id z (pos 0) ≡ true
    zero_id = sym (zero_bits z g.sfits) ∙ eq-eqb (of_z w64 z) 0 e

    pub con_other_version : (r : Answer) → not (eqb x.version.value.major 1) || not (eqb x.version.value.minor 0) ≡ true → r ≡ refused_as refusal.Version → ◌≡◌ {A = Called} (called r d room) (called_by d room takes)
    con_other_version r k p = refused_call d room takes r refusal.Version p (simp (zero_id, not_both (eqb x.version.value.major 1) (eqb x.version.value.minor 0) k))

    module _ (k : not (eqb x.version.value.major 1) || not (eqb x.version.value.minor 0) ≡ false) (y : Bool) (f : y ≡ resumes (session_at d) x) (c : Called) where
      abbrev resuming : Outcome
      resuming = Outcome.replies happened.Resumed (resumed (session_at d)) (con_rsp_with h.sc_eui true (sixteen_of (session_at d).sn_sc_uuid)) []

      abbrev beginning : Outcome
      beginning = Outcome.replies happened.Begun (begun h x) (con_rsp_with h.sc_eui false (sixteen_of h.uuid)) []

      pub con_resumes : y ≡ true → c ≡ called_by d room resuming → c ≡ called_by d room takes
      con_resumes t p =
          let v = both_set (eqb x.version.value.major 1) (eqb x.version.value.minor 0) k in
          by_outcome d room c resuming takes p (simp (zero_id, v.0, v.1, sym f ∙ t))

      pub con_anew : y ≡ false → c ≡ called_by d room beginning → c ≡ called_by d room takes
      con_anew t p =
          let v = both_set (eqb x.version.value.major 1) (eqb x.version.value.minor 0) k in
          by_outcome d room c beginning takes p (simp (zero_id, v.0, v.1, sym f ∙ t))

-- waiting, by what arrived
module _ (d room : List ℕ) (m : Message) (h : Host) where
  pub waiting_con : (x : Con) (c : Called) → m.body ≡ Body.Con x → mag m.op_id < 0x8000000000000000
      → c ≡ called_by d room (takes_con (session_at d) (to_z w64 (of_z w64 m.op_id)) x h) → c ≡ called_by d room (in_waiting (session_at d) m h)
  unfolding in_waiting
  waiting_con x c e f p =
      rw e (p ∙ ap (λ (z : ℤ). called_by d room (takes_con (session_at d) z x h)) (to_z-of_z w64 m.op_id (record { sfits = f })))

  pub waiting_other : (r : Answer) → con_in m.body ≡ none → r ≡ refused_as refusal.State → ◌≡◌ {A = Called} (called r d room) (called_by d room (in_waiting (session_at d) m h))
  unfolding in_waiting
  waiting_other r e p = refused_call d room _ r refusal.State p (ap (λ o. or_outcome o (λ x. takes_con (session_at d) m.op_id x h) (λ _. Outcome.refused refusal.State)) e)

module _ (b : Body) where
  pub con_rsp_none : (x : _) → b ≡ Body.ConRsp x → con_in b ≡ none
  con_rsp_none x e = rw e

  pub status_rsp_none : (x : _) → b ≡ Body.StatusRsp x → con_in b ≡ none
  status_rsp_none x e = rw e

  pub det_none : (x : _) → b ≡ Body.Det x → con_in b ≡ none
  det_none x e = rw e

  pub det_rsp_none : (x : ℕ) → b ≡ Body.DetRsp x → con_in b ≡ none
  det_rsp_none x e = rw e

  pub att_prp_none : (x : _) → b ≡ Body.AttPrp x → con_in b ≡ none
  att_prp_none x e = rw e

  pub det_prp_none : (x : ℕ) → b ≡ Body.DetPrp x → con_in b ≡ none
  det_prp_none x e = rw e

  pub ul_data_none : (x : _) → b ≡ Body.UlData x → con_in b ≡ none
  ul_data_none x e = rw e

  pub dl_data_que_none : (x : _) → b ≡ Body.DlDataQue x → con_in b ≡ none
  dl_data_que_none x e = rw e

  pub bare_none : (x : ℕ) → b ≡ Body.Bare x → con_in b ≡ none
  bare_none x e = rw e

pub ruleset others = (con_rsp_none, status_rsp_none, det_none, det_rsp_none, att_prp_none, det_prp_none, ul_data_none, dl_data_que_none, bare_none)

pub ruleset openings = (con_opened, con_not_opened, resume_unsent, resume_sent, anew_unsent, anew_sent, con_other_id, con_other_version, con_resumes, con_anew, waiting_con, waiting_other, others)
