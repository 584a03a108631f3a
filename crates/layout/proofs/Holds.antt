-- The record of any bytes is one that a program can hold: n bytes write a number below 256 ^ n, so each of its values has room in its stretch. So it is
-- the record of its own image. By the command. Assumes nothing.
use mathlib.Core.{Path.◌≡◌, Path.refl, Bool.Bool, Bool.true, Bool.false}
use mathlib.Core.List.{List, [], ◌∷◌, map}
use Prim.Native.Nat.{ℕ, zero, suc, ◌-◌, ◌*◌, ◌^◌, ◌≤◌, ◌<◌}
use native.Mathlib.Omega.{arith}
use lib.{Dec.ltb, Dec.lit≤, Ieee.binary64, IntN.pos, IntN.negsuc, ListN.length, Pow.pow_pos, Signed.mag}
use lib.Ieee.Bits.{of_bits-fits, is_true}
use borrow.Author.Tests.{ltb-true, ltb-false}
use Rattle.octets.specs.{Choice.either, Bytes.IsBytes, Number.little_at, Number.big_at, Number.is_there, Signed.signed_of}
use Rattle.octets.proofs.Widths.{power_pos, half_twice, little_below, big_below}
use Rattle.record.specs.declared.Body.{Body}
use Rattle.record.specs.{Record.command_in, Record.body_in, Says.is_named}
use Rattle.record.proofs.Typed.{TypedBody, Typed}
use Rattle.record.proofs.Commands.{Command, command, Past.past}
use Rattle.record.proofs.Commands.Command.{con, con_rsp, status_rsp, det, det_rsp, att_prp, det_prp, ul_data, dl_data_que, bare}
use Rattle.layout.specs.Image.{Stretch, con_lies, con_rsp_lies, status_rsp_lies, packet_lies, det_lies, att_prp_lies, ul_data_lies, dl_data_que_lies, body_lies, message_lies, message_image}
use Rattle.layout.specs.Taken.{marks_of, number_at, high_at, are_marks, con_at, con_rsp_at, status_rsp_at, packet_at, det_at, att_prp_at, ul_data_at, dl_data_que_at, whole_at, body_at, message_at}
use Rattle.layout.proofs.{Lying.taken_in, Lying.Fit, Lying.AllFit, Back.named_own, Back.message_back}

-- w bits hold at most twice what w - 1 hold
twice_most : (w : ℕ) → 2 ^ w ≤ 2 ^ (w - 1) * 2
twice_most zero = lit≤ tt
twice_most (suc w) = omega (arith, half_twice (suc w) (omega arith))

-- a signed number of w bits, of any number at all
pub signed_small : (w n : ℕ) → mag (signed_of w n) < 2 ^ (w - 1)
signed_small w n = go (ltb n (2 ^ (w - 1))) refl
  where
    go : (b : Bool) → ltb n (2 ^ (w - 1)) ≡ b → mag (either b (λ _. pos n) (λ _. negsuc (2 ^ w - suc n))) < 2 ^ (w - 1)
    go true e = ltb-true n (2 ^ (w - 1)) e
    go false e =
        let h = ltb-false n (2 ^ (w - 1)) e in
        let t = twice_most w in
        let p : 0 < 2 ^ (w - 1) = pow_pos (w - 1) in
        omega arith

if_below : (b : Bool) (x k : ℕ) → x < k → 0 < k → either b (λ _. x) (λ _. 0) < k
if_below true x k h p = h
if_below false x k h p = p

module _ (d : List ℕ) (bytes : IsBytes d) where
  number_below : (n p : ℕ) → number_at d n p < 256 ^ n
  number_below n p = if_below (is_there (length d) p n) (little_at d p n) (256 ^ n) (little_below d bytes p n) (power_pos n)

  high_below : (n p : ℕ) → high_at d n p < 256 ^ n
  high_below n p = if_below (is_there (length d) p n) (big_at d p n) (256 ^ n) (big_below d bytes p n) (power_pos n)

  fit : (s : Stretch) → Fit (taken_in d s)
  fit (Stretch.number n p x) = number_below n p
  fit (Stretch.high n p x) = high_below n p
  fit (Stretch.signed n p z) = signed_small (8 * n) (number_at d n p)
  fit (Stretch.real p x) = is_true _ (of_bits-fits binary64 (number_at d 8 p))
  fit (Stretch.flag p b) = tt

  all_fit : (ss : List Stretch) → AllFit (map (taken_in d) ss)
  all_fit [] = tt
  all_fit (s ∷ ss) = (fit s, all_fit ss)

  -- the command and the fields behind it
  abbrev Held : Body → Type 0
  Held b = (command_in b < 256 ^ 1) × AllFit (body_lies b)

  body_held : {c : ℕ} → Command c → c < 256 ^ 1 → Held (whole_at d c)
  unfolding body_in body_lies con_lies con_rsp_lies status_rsp_lies packet_lies det_lies att_prp_lies ul_data_lies dl_data_que_lies con_at con_rsp_at status_rsp_at packet_at att_prp_at ul_data_at dl_data_que_at
  body_held con h = (h, all_fit (con_lies (con_at d)))
  body_held con_rsp h = (h, all_fit (con_rsp_lies (con_rsp_at d)))
  body_held status_rsp h = (h, all_fit (status_rsp_lies (status_rsp_at d)))
  body_held det h = (h, all_fit (det_lies (det_at d)))
  body_held det_rsp h = (h, all_fit (Stretch.high 4 16 0 ∷ []))
  body_held att_prp h = (h, all_fit (att_prp_lies (att_prp_at d)))
  body_held det_prp h = (h, all_fit (Stretch.number 8 16 0 ∷ []))
  body_held ul_data h = (h, all_fit (ul_data_lies (ul_data_at d)))
  body_held dl_data_que h = (h, all_fit (dl_data_que_lies (dl_data_que_at d)))
  body_held (bare (past i) e) h = rw e (h, tt)

  marked_held : (t : Bool) (c : ℕ) → c < 256 ^ 1 → Held (either t (λ _. whole_at d c) (λ _. Body.Bare c))
  unfolding body_lies
  marked_held true c h = body_held (command c) h
  marked_held false c h = (h, tt)

  pub taken_widths : AllFit (message_lies (message_at d))
  unfolding message_at body_at
  taken_widths =
      let c = number_at d 1 8 in
      let b = marked_held (are_marks d (marks_of c)) c (number_below 1 8) in
      (signed_small 64 (number_at d 8 0), (b.0, b.1))

-- the widths of the numbers that stand for bytes
body_typed : (b : Body) → AllFit (body_lies b) → TypedBody b
unfolding body_lies con_lies con_rsp_lies packet_lies det_lies att_prp_lies ul_data_lies
body_typed (Body.Con x) f = record { high = f.1.1.1.1.1.1.0; low = f.1.1.1.1.1.1.1.0 }
body_typed (Body.ConRsp x) f = record { high = f.1.0; low = f.1.1.0 }
body_typed (Body.StatusRsp x) f = tt
body_typed (Body.Det x) f =
    (record { high = f.1.1.1.1.1.1.0; low = f.1.1.1.1.1.1.1.0 }, f.1.1.1.1.1.1.1.1.1.1.1.1.0)
body_typed (Body.DetRsp sign) f = f.0
body_typed (Body.AttPrp x) f = record { high = f.1.0; low = f.1.1.0 }
body_typed (Body.DetPrp eui) f = tt
body_typed (Body.UlData x) f = record { high = f.1.1.1.1.1.1.0; low = f.1.1.1.1.1.1.1.0 }
body_typed (Body.DlDataQue x) f = tt
body_typed (Body.Bare c) f = tt

module _ (d : List ℕ) (bytes : IsBytes d) where
  pub taken_typed : Typed (message_at d)
  taken_typed = body_typed (message_at d).body (taken_widths d bytes).1.1

  pub taken_back : is_named (message_at d).body ≡ true → message_at (message_image (message_at d)) ≡ message_at d
  taken_back n = message_back (message_at d) (record { own = named_own (message_at d).body n; widths = taken_widths d bytes })
