-- The commands by their numbers, so that laws go by one case a command: the nine that have more than their opId, and those past the first eight. Assumes nothing.
use mathlib.Core.Path.{◌≡◌, refl, sym, subst}
use mathlib.Core.Bool.{Bool, true, false, not, ◌&&◌}
use Prim.Native.Nat.{ℕ, zero, suc, ◌-◌, ◌<◌}
use native.Mathlib.Omega.{arith}
use lib.Dec.{T, eqb, leb, ltb, leb→le, ltb→lt}
use lib.Ieee.Fits.{and_i}
use lib.ListN.{drop}
use borrow.Author.Tests.{le-leb, eqb-true}
use Rattle.octets.proofs.Ranges.{true_is, is_false, both_left, both_right}
use Rattle.names.specs.Names.{downlink}
use mathlib.Core.List.{[]}
use Rattle.message.specs.Fields.{headed, lists, list_in, fields_of}
use Rattle.record.specs.Says.{is_bare}

pub data Past : ℕ → Type 0 where
  past : (i : ℕ) → Past (suc (suc (suc (suc (suc (suc (suc (suc i))))))))

-- each command by its number
pub data Command : ℕ → Type 0 where
  con : Command 0
  con_rsp : Command 1
  status_rsp : Command 2
  det : Command 3
  det_rsp : Command 4
  att_prp : Command 5
  det_prp : Command 6
  ul_data : Command 7
  dl_data_que : Command downlink
  bare : {c : ℕ} → Past c → eqb c downlink ≡ false → Command c

behind : (i : ℕ) (b : Bool) → eqb (suc (suc (suc (suc (suc (suc (suc (suc i)))))))) downlink ≡ b → Command (suc (suc (suc (suc (suc (suc (suc (suc i))))))))
behind i true e = subst Command (sym (eqb-true (suc (suc (suc (suc (suc (suc (suc (suc i)))))))) downlink e)) dl_data_que
behind i false e = bare (past i) e

pub command : (c : ℕ) → Command c
command zero = con
command (suc zero) = con_rsp
command (suc (suc zero)) = status_rsp
command (suc (suc (suc zero))) = det
command (suc (suc (suc (suc zero)))) = det_rsp
command (suc (suc (suc (suc (suc zero))))) = att_prp
command (suc (suc (suc (suc (suc (suc zero)))))) = det_prp
command (suc (suc (suc (suc (suc (suc (suc zero))))))) = ul_data
command (suc (suc (suc (suc (suc (suc (suc (suc i)))))))) = behind i (eqb (suc (suc (suc (suc (suc (suc (suc (suc i)))))))) downlink) refl

module _ (c : ℕ) (t : T (is_bare c)) where
  rest : T (ltb c 24 && not (eqb c downlink))
  rest = both_right (leb 8 c) (ltb c 24 && not (eqb c downlink)) t

  pub bare_past : Past c
  bare_past =
      let h = leb→le 8 c (both_left (leb 8 c) (ltb c 24 && not (eqb c downlink)) t) in
      subst Past (omega arith) (past (c - 8))

  pub bare_below : c < 24
  bare_below = ltb→lt c 24 (both_left (ltb c 24) (not (eqb c downlink)) rest)

  pub bare_other : eqb c downlink ≡ false
  bare_other = sym (is_false (eqb c downlink) (both_right (ltb c 24) (not (eqb c downlink)) rest))

pub past_bare : {c : ℕ} → Past c → eqb c downlink ≡ false → T (ltb c 24) → T (is_bare c)
past_bare (past i) e t =
    let c = suc (suc (suc (suc (suc (suc (suc (suc i))))))) in
    and_i (leb 8 c) (ltb c 24 && not (eqb c downlink)) (true_is (leb 8 c) (sym (le-leb 8 c (omega arith))))
    (and_i (ltb c 24) (not (eqb c downlink)) t (rw e tt))

pub bare_list : {c : ℕ} → Past c → eqb c downlink ≡ false → fields_of c ≡ headed []
unfolding lists list_in
bare_list (past i) e = rw e

-- command and opId stand first in each list
pub begins : {c : ℕ} → Command c → fields_of c ≡ headed (drop 2 (fields_of c))
unfolding lists list_in
begins con = refl
begins con_rsp = refl
begins status_rsp = refl
begins det = refl
begins det_rsp = refl
begins att_prp = refl
begins det_prp = refl
begins ul_data = refl
begins dl_data_que = refl
begins (bare (past i) e) = rw e
