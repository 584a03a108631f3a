-- Bytes that no field of the command has are not looked at; and a mark over 1 makes a record that is refused: its command is its first field at
-- fault. By the command. Assumes nothing.
use mathlib.Core.Path.{◌≡◌, refl, sym, ap, ap₂, ◌∙◌}
use mathlib.Core.Bool.{Bool, true, false, ◌&&◌, ◌||◌, and-false}
use mathlib.Core.List.Memᴰ
use mathlib.Core.List.{List, [], ◌∷◌, ◌++◌, map, Memᴰ}
use mathlib.Core.Logic.{◌⊎◌, inl, inr}
use Prim.Native.Nat.{ℕ, ◌+◌, ◌≤◌, ◌<◌}
use native.Mathlib.Omega.{arith}
use lib.{Dec.T, Dec.leb, Dec.ltb, IntN.ℤ, IntN.pos, ListN.length, ListN.get_or}
use borrow.Author.Tests.{le-leb, lt-ltb, le-ltb}
use Rattle.octets.specs.Choice.{either}
use Rattle.message.specs.Fields.{lists, list_in}
use Rattle.saying.specs.Says.{part_in}
use Rattle.record.specs.declared.{Body.Body, Message.Message}
use Rattle.record.specs.{Record.command_in, Record.body_in, Says.sayings_of, Fits.first_fault, Fits.fault_in}
use Rattle.record.proofs.Commands.{Command, command, Past.past}
use Rattle.record.proofs.Commands.Command.{con, con_rsp, status_rsp, det, det_rsp, att_prp, det_prp, ul_data, dl_data_que, bare}
use Rattle.layout.specs.Image.{Stretch, start_of, con_lies, con_rsp_lies, status_rsp_lies, packet_lies, det_lies, att_prp_lies, ul_data_lies, dl_data_que_lies, body_lies, head_lies}
use Rattle.layout.specs.Taken.{marks_of, number_at, signed_at, are_marks, con_at, con_rsp_at, status_rsp_at, packet_at, det_at, att_prp_at, ul_data_at, dl_data_que_at, whole_at, body_at, message_at}
use Rattle.layout.proofs.{Back.Own, Back.marks_are}
use Rattle.layout.proofs.Lying.{size_of, taken_in, marks_in, taken_same, mark_same}
use Rattle.layout.proofs.Parts.{con_of, con_rsp_of, status_rsp_of, det_of, att_prp_of, ul_data_of, dl_data_que_of}

-- a place that a field has
abbrev pub is_in : ℕ → List Stretch → Bool
is_in k [] = false
is_in k (s ∷ ss) = (leb (start_of s) k && ltb k (start_of s + size_of s)) || is_in k ss

-- the stretches of a command's records, here of one with zeros
abbrev zero_body : ℕ → Body
zero_body c = whole_at [] c

abbrev pub lies_for : ℕ → List Stretch
lies_for c = head_lies (pos 0) c ++ body_lies (zero_body c)

here : (s : Stretch) (ss : List Stretch) (k : ℕ) → k < size_of s → T (is_in (start_of s + k) (s ∷ ss))
here s ss k h = rw (le-leb (start_of s) (start_of s + k) (omega arith), lt-ltb (start_of s + k) (start_of s + size_of s) (omega arith)) tt

later : (a b : Bool) → T b → T (a || b)
later true b t = tt
later false b t = t

module _ (d e : List ℕ) (long : length d ≡ length e) where
  all_same : (ss : List Stretch) → ((k : ℕ) → T (is_in k ss) → get_or d k 0 ≡ get_or e k 0)
      → (map (taken_in d) ss ≡ map (taken_in e) ss) × (marks_in d ss ≡ marks_in e ss)
  all_same [] f = (refl, refl)
  all_same (s ∷ ss) f =
      let g : (k : ℕ) → k < size_of s → get_or d (start_of s + k) 0 ≡ get_or e (start_of s + k) 0 = λ k h. f (start_of s + k) (here s ss k h) in
      let r = all_same ss (λ k t. f k (later (leb (start_of s) k && ltb k (start_of s + size_of s)) (is_in k ss) t)) in
      (ap₂ (λ (t : Stretch) (ts : List Stretch). t ∷ ts) (taken_same d e long s g) r.0, ap₂ ◌&&◌ (mark_same d e long s g) r.1)

  body_same : {c : ℕ} → Command c → map (taken_in d) (body_lies (zero_body c)) ≡ map (taken_in e) (body_lies (zero_body c)) → whole_at d c ≡ whole_at e c
  unfolding body_in body_lies con_lies con_rsp_lies status_rsp_lies packet_lies det_lies att_prp_lies ul_data_lies dl_data_que_lies con_at con_rsp_at status_rsp_at packet_at att_prp_at ul_data_at dl_data_que_at
  body_same con q = ap Body.Con (con_of d (con_at []) (con_at e) q)
  body_same con_rsp q = ap Body.ConRsp (con_rsp_of d (con_rsp_at []) (con_rsp_at e) q)
  body_same status_rsp q = ap Body.StatusRsp (status_rsp_of d (status_rsp_at []) (status_rsp_at e) q)
  body_same det q = ap Body.Det (det_of d (det_at []) (det_at e) q)
  body_same det_rsp q = cc
  body_same att_prp q = ap Body.AttPrp (att_prp_of d (att_prp_at []) (att_prp_at e) q)
  body_same det_prp q = cc
  body_same ul_data q = ap Body.UlData (ul_data_of d (ul_data_at []) (ul_data_at e) q)
  body_same dl_data_que q = ap Body.DlDataQue (dl_data_que_of d (dl_data_que_at []) (dl_data_que_at e) q)
  body_same (bare (past i) f) q = rw f

zero_of : {c : ℕ} → Command c → Own (zero_body c) × (command_in (zero_body c) ≡ c)
unfolding body_in
zero_of con = (tt, refl)
zero_of con_rsp = (tt, refl)
zero_of status_rsp = (tt, refl)
zero_of det = (tt, refl)
zero_of det_rsp = (tt, refl)
zero_of att_prp = (tt, refl)
zero_of det_prp = (tt, refl)
zero_of ul_data = (tt, refl)
zero_of dl_data_que = (tt, refl)
zero_of (bare (past i) f) = rw f ((omega arith, f), refl)

-- bytes that differ only where the command has no field are the same record
pub others_ignored : (d e : List ℕ) → length d ≡ length e → ((k : ℕ) → T (is_in k (lies_for (number_at d 1 8))) → get_or d k 0 ≡ get_or e k 0) → message_at d ≡ message_at e
unfolding message_at body_at
others_ignored d e long f =
    let c = number_at d 1 8 in
    let r = all_same d e long (lies_for c) f in
    let z : signed_at d 8 0 ≡ signed_at e 8 0 = cc in
    let k : number_at d 1 8 ≡ number_at e 1 8 = cc in
    let q : map (taken_in d) (body_lies (zero_body c)) ≡ map (taken_in e) (body_lies (zero_body c)) = cc in
    let o = zero_of (command c) in
    let m : are_marks d (marks_of c) ≡ are_marks e (marks_of c)
    = rw o.1 at (marks_are d (zero_body c) o.0 ∙ r.1 ∙ sym (marks_are e (zero_body c) o.0)) in
    rw (← k) (λ i. record { op_id = z i; body = either (m i) (λ _. body_same d e long (command c) q i) (λ _. Body.Bare c) })

-- a bare record of a command that has fields
module _ (z : ℤ) (b : List ℕ) where
  abbrev emptied : ℕ → Message
  emptied c = record { op_id = z; body = Body.Bare c }

  bare_fault : {c : ℕ} → Command c → (p : ℕ) → Memᴰ p (marks_of c) → fault_in (emptied c) b ≡ 1
  unfolding fault_in first_fault lists list_in sayings_of part_in
  bare_fault con p m = refl
  bare_fault con_rsp p m = refl
  bare_fault status_rsp p m = refl
  bare_fault det p m = refl
  bare_fault det_rsp p m = refl
  bare_fault att_prp p m = refl
  bare_fault det_prp p m = refl
  bare_fault ul_data p m = refl
  bare_fault dl_data_que p m = refl
  bare_fault (bare (past i) f) p m = absurd (Memᴰ.not-nil (rw f at m))

over_one : (d : List ℕ) (p : ℕ) → 2 ≤ number_at d 1 p → (l : List ℕ) → Memᴰ p l → are_marks d l ≡ false
unfolding are_marks
over_one d p h [] m = absurd (Memᴰ.not-nil m)
over_one d p h (q ∷ l) m = go (Memᴰ.cases_cons m) (over_one d p h l)
  where
    go : (p ≡ q) ⊎ Memᴰ p l → (Memᴰ p l → are_marks d l ≡ false) → (ltb (number_at d 1 q) 2 && are_marks d l) ≡ false
    go (inl e) r = ap (λ (t : Bool). t && are_marks d l) (le-ltb (number_at d 1 q) 2 (rw e at h))
    go (inr n) r = ap (λ (t : Bool). ltb (number_at d 1 q) 2 && t) (r n) ∙ and-false (ltb (number_at d 1 q) 2)

-- 15: where one of the command's marks is over 1, the first field at fault is the command
pub marked_refused : (d b : List ℕ) (p : ℕ) → Memᴰ p (marks_of (number_at d 1 8)) → 2 ≤ number_at d 1 p → fault_in (message_at d) b ≡ 1
unfolding message_at body_at
marked_refused d b p m h =
    ap (λ (t : Bool). fault_in (record { op_id = signed_at d 8 0; body = either t (λ _. whole_at d (number_at d 1 8)) (λ _. Body.Bare (number_at d 1 8)) }) b)
    (over_one d p h (marks_of (number_at d 1 8)) m)
    ∙ bare_fault (signed_at d 8 0) b (command (number_at d 1 8)) p m
