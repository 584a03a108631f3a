-- A record's message by the code's tests: by its variant, and by the number of a command that has nothing more. Assumes nothing.
use mathlib.Core.{Path.◌≡◌, Bool.Bool, Bool.true, Bool.not, Bool.◌&&◌}
use mathlib.Core.List.{List, [], ◌∷◌, ◌++◌}
use Prim.Native.Nat.{ℕ, zero, suc, ◌+◌, ◌≤◌}
use native.Mathlib.Omega.{arith}
use lib.Dec.{T, eqb, leb, ltb, leb→le}
use lib.{IntN.ℤ, ListN.length}
use mir.Syntax.{w64}
use mir.Val.{to_z, of_z, SFits}
use mir.ValLaws.{to_z-of_z}
use borrow.Author.Tests.{eqb-false}
use Rattle.octets.specs.Pieces.{sum_of, lengths_lent, are_lent}
use Rattle.octets.proofs.Ranges.{true_is, both_left}
use Rattle.forms.specs.Code.Put.{Put, put_parts, map_parts, whole_parts}
use Rattle.names.specs.Names.{commands, name_at, downlink}
use Rattle.saying.specs.Says.{no_bits}
use Rattle.record.specs.{Says.is_bare, Says.is_named, Code.Most.frame_most}
use Rattle.record.specs.declared.{Con.Con, ConRsp.ConRsp, StatusRsp.StatusRsp, Det.Det, AttPrp.AttPrp, UlData.UlData, DlDataQue.DlDataQue, Body.Body}
use Rattle.record.proofs.{Commands.bare_below, Commands.bare_other, Downlinks.lent_few, Downlinks.lent_long}
use Rattle.writer.specs.Code.Parts.{short_text, text, chained, title_parts, downlink_count, queue_parts, weight_parts, wishes_parts, has_data, pairs_in, groups_in, body_parts}
use Rattle.writer.proofs.Putting.{title_3}

-- by the variant; the signed opId is handed on in its bits
module _ (z : ℤ) (f : SFits w64 z) (v : Body) (d : List ℕ) (o a : Put) where
  back : to_z w64 (of_z w64 z) ≡ z
  back = to_z-of_z w64 z f

  pub of_con : (x : Con) → v ≡ Body.Con x → a ≡ put_parts (body_parts (to_z w64 (of_z w64 z)) (Body.Con x) []) o → a ≡ put_parts (body_parts z v d) o
  unfolding body_parts groups_in
  of_con x e g = rw e (rw back at g)

  pub of_con_rsp : (x : ConRsp) → v ≡ Body.ConRsp x → a ≡ put_parts (body_parts (to_z w64 (of_z w64 z)) (Body.ConRsp x) []) o → a ≡ put_parts (body_parts z v d) o
  unfolding body_parts groups_in
  of_con_rsp x e g = rw e (rw back at g)

  pub of_status_rsp : (x : StatusRsp) → v ≡ Body.StatusRsp x → a ≡ put_parts (body_parts (to_z w64 (of_z w64 z)) (Body.StatusRsp x) d) o → a ≡ put_parts (body_parts z v d) o
  unfolding body_parts groups_in
  of_status_rsp x e g = rw e (rw back at g)

  pub of_det : (x : Det) → v ≡ Body.Det x → a ≡ put_parts (body_parts (to_z w64 (of_z w64 z)) (Body.Det x) []) o → a ≡ put_parts (body_parts z v d) o
  unfolding body_parts groups_in
  of_det x e g = rw e (rw back at g)

  pub of_det_rsp : (sign : ℕ) → v ≡ Body.DetRsp sign → a ≡ put_parts (body_parts (to_z w64 (of_z w64 z)) (Body.DetRsp sign) []) o → a ≡ put_parts (body_parts z v d) o
  unfolding body_parts groups_in
  of_det_rsp sign e g = rw e (rw back at g)

  pub of_att_prp : (x : AttPrp) → v ≡ Body.AttPrp x → a ≡ put_parts (body_parts (to_z w64 (of_z w64 z)) (Body.AttPrp x) []) o → a ≡ put_parts (body_parts z v d) o
  unfolding body_parts groups_in
  of_att_prp x e g = rw e (rw back at g)

  pub of_det_prp : (eui : ℕ) → v ≡ Body.DetPrp eui → a ≡ put_parts (body_parts (to_z w64 (of_z w64 z)) (Body.DetPrp eui) []) o → a ≡ put_parts (body_parts z v d) o
  unfolding body_parts groups_in
  of_det_prp eui e g = rw e (rw back at g)

  pub of_ul_data : (x : UlData) → v ≡ Body.UlData x → a ≡ put_parts (body_parts (to_z w64 (of_z w64 z)) (Body.UlData x) d) o → a ≡ put_parts (body_parts z v d) o
  unfolding body_parts groups_in
  of_ul_data x e g = rw e (rw back at g)

  pub of_dl_data_que : (x : DlDataQue) → v ≡ Body.DlDataQue x → a ≡ put_parts (body_parts (to_z w64 (of_z w64 z)) (Body.DlDataQue x) d) o → a ≡ put_parts (body_parts z v d) o
  unfolding body_parts groups_in
  of_dl_data_que x e g = rw e (rw back at g)

  pub of_bare : (c : ℕ) → v ≡ Body.Bare c → a ≡ put_parts (body_parts (to_z w64 (of_z w64 z)) (Body.Bare c) []) o → a ≡ put_parts (body_parts z v d) o
  unfolding body_parts groups_in
  of_bare c e g = rw e (rw back at g)

-- what the writer of a variant must be handed
pub bare_named : (v : Body) (c : ℕ) → true ≡ is_named v → v ≡ Body.Bare c → true ≡ is_bare c
bare_named v c n e = rw e at n

module _ (v : Body) (d : List ℕ) (x : DlDataQue) (t : true ≡ has_data v d) (e : v ≡ Body.DlDataQue x) where
  there : T (are_lent x.entries d)
  there = true_is (has_data (Body.DlDataQue x) d) (rw e at t)

  pub entries_few : x.entries ≤ 16
  entries_few = lent_few x.entries d there

  pub entries_there : 80 + sum_of (lengths_lent x.entries d) ≤ length d
  entries_there = lent_long x.entries d there

-- a session replies with no other record
module _ (v : Body) (h : frame_most v ≤ 145) (a b : Put) where
  pub never_con : (x : _) → v ≡ Body.Con x → a ≡ b
  never_con x e = absurd (omega (arith, rw e at h))

  pub never_status_rsp : (x : _) → v ≡ Body.StatusRsp x → a ≡ b
  never_status_rsp x e = absurd (omega (arith, rw e at h))

  pub never_det : (x : _) → v ≡ Body.Det x → a ≡ b
  never_det x e = absurd (omega (arith, rw e at h))

  pub never_att_prp : (x : _) → v ≡ Body.AttPrp x → a ≡ b
  never_att_prp x e = absurd (omega (arith, rw e at h))

  pub never_det_prp : (x : ℕ) → v ≡ Body.DetPrp x → a ≡ b
  never_det_prp x e = absurd (omega (arith, rw e at h))

  pub never_ul_data : (x : _) → v ≡ Body.UlData x → a ≡ b
  never_ul_data x e = absurd (omega (arith, rw e at h))

  pub never_dl_data_que : (x : _) → v ≡ Body.DlDataQue x → a ≡ b
  never_dl_data_que x e = absurd (omega (arith, rw e at h))

pub ruleset nevers = (never_con, never_status_rsp, never_det, never_att_prp, never_det_prp, never_ul_data, never_dl_data_que)

pub ruleset variants = (of_con, of_con_rsp, of_status_rsp, of_det, of_det_rsp, of_att_prp, of_det_prp, of_ul_data, of_dl_data_que, of_bare, bare_named, entries_few, entries_there)

-- dlDataQue, whose priority is written by a test
pub downlink_put : (z : ℤ) → SFits w64 z → (x : DlDataQue) (d : List ℕ) (prior : Bool) (n : ℕ) (o a b c e : Put) → prior ≡ not (no_bits x.prio) → n ≡ downlink_count x prior
    → a ≡ put_parts (map_parts n ++ ((text "command" ++ (short_text (name_at commands 21) ++ text "opId")) ∷ whole_parts (to_z w64 (of_z w64 z)))) o
    → b ≡ put_parts (queue_parts x d) a → c ≡ put_parts (weight_parts x.format prior x.prio) b → e ≡ put_parts (wishes_parts x) c
    → e ≡ put_parts (body_parts z (Body.DlDataQue x) d) o
unfolding body_parts pairs_in groups_in
downlink_put z f x d prior n o a b c e p i g h j k =
    let name = name_at commands 21 in
    title_3 z f n (downlink_count x (not (no_bits x.prio))) name o a (rw p at i) g (queue_parts x d) b h (weight_parts x.format (not (no_bits x.prio)) x.prio) c (rw p at j) (wishes_parts x) e k

-- by the number
pub bare_put : (z : ℤ) → SFits w64 z → (c k : ℕ) (o a : Put) → c ≡ k
    → a ≡ put_parts (map_parts 2 ++ ((text "command" ++ (short_text (name_at commands k) ++ text "opId")) ∷ whole_parts (to_z w64 (of_z w64 z)))) o → a ≡ put_parts (body_parts z (Body.Bare c) []) o
unfolding body_parts groups_in pairs_in title_parts chained
bare_put z f c k o a e g = rw e (rw (to_z-of_z w64 z f) at g)

-- none of j numbers from 8 on
abbrev NoneOf : ℕ → ℕ → Type 0
NoneOf zero c = Unit {0}
NoneOf (suc j) c = NoneOf j c × (c ≡ 8 + j → ⊥)

above : (j c : ℕ) → 8 ≤ c → NoneOf j c → 8 + j ≤ c
above zero c h n = omega arith
above (suc j) c h n = omega (arith, above j c h n.0, n.1)

-- the last that is left, by the fourteen tests before it
abbrev None : ℕ → Type 0
None c = NoneOf 13 c × (c ≡ 22 → ⊥)

last_bare : (c : ℕ) → true ≡ is_bare c → None c → c ≡ 23
last_bare c b n =
    let t = true_is (is_bare c) b in
    let from = leb→le 8 c (both_left (leb 8 c) (ltb c 24 && not (eqb c downlink)) t) in
    omega (arith, above 13 c from n.0, n.1, bare_below c t, eqb-false c downlink (bare_other c t))

pub bare_rest : (z : ℤ) → SFits w64 z → (c : ℕ) (o a : Put) → true ≡ is_bare c → None c
    → a ≡ put_parts (map_parts 2 ++ ((text "command" ++ (short_text (name_at commands 23) ++ text "opId")) ∷ whole_parts (to_z w64 (of_z w64 z)))) o → a ≡ put_parts (body_parts z (Body.Bare c) []) o
bare_rest z f c o a b n g = bare_put z f c 23 o a (last_bare c b n) g

pub ruleset bares = (bare_put, bare_rest)
