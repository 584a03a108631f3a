-- What the table's answer is as a reading, and which message goes to the table. Assumes nothing.
use mathlib.Core.{Path.◌≡◌, Path.refl, Path.ap, List.List}
use Rattle.std.specs.Prelude.{Option, Ok, Err}
use Rattle.refusal.specs.declared.Refusal.{Refusal}
use Prim.Native.Nat.{ℕ}
use Rattle.record.specs.declared.{Body.Body, UlData.UlData, Con.Con, ConRsp.ConRsp, StatusRsp.StatusRsp, Det.Det, AttPrp.AttPrp, DlDataQue.DlDataQue}
use Rattle.meters.specs.declared.{Credit.Credit, Kind.TheVariants.New, Kind.TheVariants.Copy}
use Rattle.meters.specs.Answers.{Uplinked}
use Rattle.meters.specs.Columns.{Columns, told_credit, uplink_on}
use Rattle.play.specs.declared.Credited.{Credited}
use Rattle.play.specs.Play.{played, no_reading, new_reading, reading_of, credited, to_table}

module _ (c e : Columns) (eui counter station : ℕ) (a : Uplinked) (t : told_credit a e ≡ uplink_on c eui counter station) where
  by_answer : (r : Option Credited) → r ≡ reading_of a eui counter → (d : List ℕ) → played d e r ≡ credited d c station eui counter
  unfolding credited
  by_answer r q d = rw (← t) q'
    where
      q' : played d e r ≡ played d e (reading_of a eui counter)
      q' = ap (λ x. played d e x) q

  module _ (k : Credit) (q : a ≡ Ok k) where
    pub new_credited : k.kind ≡ New → (d : List ℕ) → played d e (new_reading eui counter) ≡ credited d c station eui counter
    unfolding reading_of
    new_credited f = by_answer _ (simp (q, f) refl)

    pub copy_credited : k.kind ≡ Copy → (d : List ℕ) → played d e no_reading ≡ credited d c station eui counter
    unfolding reading_of
    copy_credited f = by_answer _ (simp (q, f) refl)

  pub stale_credited : (k : Refusal) → a ≡ Err k → (d : List ℕ) → played d e no_reading ≡ credited d c station eui counter
  unfolding reading_of
  stale_credited k q = by_answer _ (simp q refl)

pub ruleset crediting = (new_credited, copy_credited, stale_credited)

-- by the message
module _ (c : Columns) (station : ℕ) (b : Body) where
  pub ul_data_counts : (x : UlData) → b ≡ Body.UlData x → (e : Columns) (r : Option Credited)
      → ((d : List ℕ) → played d e r ≡ credited d c station x.packet.ep_eui x.packet.packet_cnt)
      → (d : List ℕ) → played d e r ≡ to_table d c station b
  unfolding to_table
  ul_data_counts x q e r f d = simp q (f d)

  module _ (r : Option Credited) (n : r ≡ no_reading) where
    none_played : (d : List ℕ) → played d c r ≡ played d c no_reading
    none_played d = ap (λ x. played d c x) n

    pub con_passes : (x : Con) → b ≡ Body.Con x → (d : List ℕ) → played d c r ≡ to_table d c station b
    unfolding to_table
    con_passes x q d = simp q (none_played d)

    pub con_rsp_passes : (x : ConRsp) → b ≡ Body.ConRsp x → (d : List ℕ) → played d c r ≡ to_table d c station b
    unfolding to_table
    con_rsp_passes x q d = simp q (none_played d)

    pub status_rsp_passes : (x : StatusRsp) → b ≡ Body.StatusRsp x → (d : List ℕ) → played d c r ≡ to_table d c station b
    unfolding to_table
    status_rsp_passes x q d = simp q (none_played d)

    pub det_passes : (x : Det) → b ≡ Body.Det x → (d : List ℕ) → played d c r ≡ to_table d c station b
    unfolding to_table
    det_passes x q d = simp q (none_played d)

    pub det_rsp_passes : (x : ℕ) → b ≡ Body.DetRsp x → (d : List ℕ) → played d c r ≡ to_table d c station b
    unfolding to_table
    det_rsp_passes x q d = simp q (none_played d)

    pub att_prp_passes : (x : AttPrp) → b ≡ Body.AttPrp x → (d : List ℕ) → played d c r ≡ to_table d c station b
    unfolding to_table
    att_prp_passes x q d = simp q (none_played d)

    pub det_prp_passes : (x : ℕ) → b ≡ Body.DetPrp x → (d : List ℕ) → played d c r ≡ to_table d c station b
    unfolding to_table
    det_prp_passes x q d = simp q (none_played d)

    pub downlink_passes : (x : DlDataQue) → b ≡ Body.DlDataQue x → (d : List ℕ) → played d c r ≡ to_table d c station b
    unfolding to_table
    downlink_passes x q d = simp q (none_played d)

    pub bare_passes : (x : ℕ) → b ≡ Body.Bare x → (d : List ℕ) → played d c r ≡ to_table d c station b
    unfolding to_table
    bare_passes x q d = simp q (none_played d)

pub ruleset passing =
    (ul_data_counts, con_passes, con_rsp_passes, status_rsp_passes, det_passes, det_rsp_passes, att_prp_passes, det_prp_passes, downlink_passes, bare_passes)
