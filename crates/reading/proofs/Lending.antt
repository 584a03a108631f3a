-- The bytes that are lent beside a record without faults are its long bytes: ulData's stand in the room that they were read into, statusRsp's text and dlDataQue's
-- counters and data entries at their places, and no other command has any. Assumes nothing.
use mathlib.Core.Path.{◌≡◌, refl, sym, ap, ap₂, subst, ◌∙◌}
use mathlib.Core.{Bool.Bool, Bool.true, Bool.false, Option.Option, Option.some, Option.none}
use mathlib.Core.List.{List, [], ◌∷◌, ◌++◌}
use Prim.Native.Nat.{ℕ, zero, suc, ◌+◌, ◌-◌, min, max, ◌≤◌, ◌<◌}
use native.Mathlib.Omega.{arith}
use lib.{Dec.leb, Seq.take_all, Seq.length-take-le, Seq.take-append_seam}
use lib.ListN.{length, get_or, take, drop, replicate}
use borrow.Author.Tests.{leb-true, leb-false}
use Rattle.octets.specs.{Choice.either, Bytes.put_at, Pieces.downlink_bytes}
use Rattle.octets.proofs.Writing.{put_none}
use Rattle.forms.specs.Code.Put.{Put, put, put_part, put_parts}
use Rattle.names.specs.{Names.name_at, Names.place_in, Code.Slots.keys, Code.Slots.slot_of}
use Rattle.field.specs.Kind.{Kind, Value, user_bytes, status_text}
use Rattle.field.specs.Cell.{Cell, judged, value_in, word_of, views_of}
use Rattle.field.specs.{Judge.judge, Code.At.shallow_at, Code.At.seen_at, Code.At.cell_at, Code.At.string_filled, Code.Into.read_into}
use Rattle.field.proofs.Intos.{into_good}
use Rattle.message.specs.Fields.{Field, lists, list_in, fields_of}
use Rattle.message.specs.{Code.Cells.cells_at, Record.word_in, Record.string_of}
use Rattle.message.specs.Reading.{cell_fault, graded, gravest, look_in}
use Rattle.record.specs.declared.{Con.Con, ConRsp.ConRsp, StatusRsp.StatusRsp, Det.Det, AttPrp.AttPrp, UlData.UlData, DlDataQue.DlDataQue, Body.Body}
use Rattle.record.specs.Record.{bytes_in, counts_in, strings_in, body_in, message_of, lent_keys, data_of}
use Rattle.record.proofs.{Commands.Command, Commands.command, Commands.Past.past}
use Rattle.record.proofs.Commands.Command.{con, con_rsp, status_rsp, det, det_rsp, att_prp, det_prp, ul_data, dl_data_que, bare}
use Rattle.bodies.specs.Code.Read.{user_after, look_for}
use Rattle.bodies.proofs.{Values.IsString, Values.arrays_are, Values.texts_put, Bytes.put_zeros}
use Rattle.reading.specs.Code.Ways.{Enters, lent_after}

-- a mandatory field without a fault
good_here : (k : Kind) (s : List ℕ) (p i : ℕ) → graded (cell_fault true (cell_at k s p)) i ≡ 0 → {A : Type 0} → ((v : Value) → judge k (seen_at k s p) ≡ some v → cell_at k s p ≡ Cell.good v → A) → A
unfolding cell_at
good_here k s zero i e f = absurd (omega arith)
good_here k s (suc zero) i e f = absurd (omega arith)
good_here k s (suc (suc p)) i e {A} f = go (judge k (seen_at k s (suc (suc p)))) refl e
  where
    go : (o : Option Value) → judge k (seen_at k s (suc (suc p))) ≡ o → graded (cell_fault true (judged o)) i ≡ 0 → A
    go none q z = absurd (omega arith)
    go (some v) q z = f v q (ap judged q)

-- statusRsp's text
text_lent : (s d : List ℕ) (p i : ℕ) → graded (cell_fault true (cell_at status_text s p)) i ≡ 0
    → string_filled (judge (Kind.texts 0 (length d)) (shallow_at s p)) d ≡ put_at d 0 (bytes_in (cell_at status_text s p))
text_lent s d p i e = good_here status_text s p i e (λ v j q. texts_put (shallow_at s p) v 0 64 j d ∙ ap (λ (c : Cell). put_at d 0 (bytes_in c)) (sym q))

-- ulData's bytes
user_first : (v : Value) → IsString 0 245 v → take (word_in (Cell.good v)) (string_filled (some v) (replicate 245 0)) ≡ string_of v
user_first _ (IsString.string b l h) = ap (take (length b)) (put_zeros 245 b h) ∙ take-append_seam b (replicate (245 - length b) 0)

user_lent : (s : List ℕ) (p i : ℕ) → graded (cell_fault true (cell_at user_bytes s p)) i ≡ 0
    → take (word_in (cell_at user_bytes s p)) (read_into s p (replicate 245 0)) ≡ bytes_in (cell_at user_bytes s p)
user_lent s p i e =
    good_here user_bytes s p i e
    (λ v j q.
    let r : read_into s p (replicate 245 0) ≡ string_filled (some v) (replicate 245 0) = into_good s p (replicate 245 0) v q in
    rw (r, q) (user_first v (arrays_are (shallow_at s p) v 0 245 j)))

-- where no fault is the gravest, each is none
least : (g i : ℕ) (l : List Field) (cs : List Cell) → g ≤ gravest g i l cs
unfolding gravest
least g i [] cs = omega arith
least g i (f ∷ l) [] = omega arith
least g i (f ∷ l) (c ∷ cs) = let h = least (max g (graded (cell_fault f.must c) i)) (suc i) l cs in omega arith

abbrev fault_at : ℕ → ℕ → List Field → List Cell → ℕ
fault_at k i [] cs = 0
fault_at k i (f ∷ l) [] = 0
fault_at zero i (f ∷ l) (c ∷ cs) = graded (cell_fault f.must c) i
fault_at (suc k) i (f ∷ l) (c ∷ cs) = fault_at k (suc i) l cs

each_none : (k g i : ℕ) (l : List Field) (cs : List Cell) → gravest g i l cs ≡ 0 → fault_at k i l cs ≡ 0
unfolding gravest
each_none k g i [] cs e = refl
each_none k g i (f ∷ l) [] e = refl
each_none zero g i (f ∷ l) (c ∷ cs) e = let h = least (max g (graded (cell_fault f.must c) i)) (suc i) l cs in omega arith
each_none (suc k) g i (f ∷ l) (c ∷ cs) e = each_none k (max g (graded (cell_fault f.must c) i)) (suc i) l cs e

module _ (s at d : List ℕ) where
  abbrev Lent : ℕ → Type 0
  Lent c =
      gravest 0 0 (fields_of c) (cells_at (fields_of c) s at) ≡ 0
      → lent_after s at (message_of c (look_for s at c)).body (user_after s at c (replicate 245 0)) d ≡ put_at d 0 (data_of c (look_for s at c))

  by_command : {c : ℕ} → Command c → Lent c
  unfolding lent_after message_of body_in data_of lent_keys name_at gravest cells_at look_in lists list_in slot_of place_in keys
  by_command con e = sym (put_none d 0)
  by_command con_rsp e = sym (put_none d 0)
  by_command status_rsp e = text_lent s d (get_or at 18 0) 3 (each_none 3 0 0 (fields_of 2) (cells_at (fields_of 2) s at) e)
  by_command det e = sym (put_none d 0)
  by_command det_rsp e = sym (put_none d 0)
  by_command att_prp e = sym (put_none d 0)
  by_command det_prp e = sym (put_none d 0)
  by_command ul_data e = ap (put_at d 0) (user_lent s (get_or at 43 0) 10 (each_none 10 0 0 (fields_of 7) (cells_at (fields_of 7) s at) e))
  by_command dl_data_que e = refl
  by_command (bare (past i) q) e = rw q (sym (put_none d 0))

  enters_by : {c : ℕ} → Command c → Enters s at (message_of c (look_for s at c)).body
  unfolding message_of body_in cells_at look_in lists list_in slot_of place_in keys
  enters_by con = tt
  enters_by con_rsp = tt
  enters_by status_rsp = tt
  enters_by det = tt
  enters_by det_rsp = tt
  enters_by att_prp = tt
  enters_by det_prp = tt
  enters_by ul_data = tt
  enters_by dl_data_que = refl
  enters_by (bare (past i) q) = rw q tt

  pub enters : (c : ℕ) → Enters s at (message_of c (look_for s at c)).body
  enters c = enters_by (command c)

  pub lent_is : (c : ℕ) → Lent c
  lent_is c = by_command (command c)

-- a run that is put is put where it has room
put_run_is : (vs d out : List ℕ) (r : ℕ) → ◌≡◌ {A = Put} (put out r) (put_parts (vs ∷ []) (put d 0)) → out ≡ put_at d 0 vs
unfolding put_parts put_part put_at
put_run_is vs d out r e = ap (λ (o : Put). o.room) e ∙ go (leb (0 + length vs) (length d))
  where
    go : (b : Bool) → (either b (λ _. put (either b (λ _. take 0 d ++ (vs ++ drop (0 + length vs) d)) (λ _. d)) (0 + length vs)) (λ _. put d 0)).room ≡ either b (λ _. take 0 d ++ (vs ++ drop (0 + length vs) d)) (λ _. d)
    go true = refl
    go false = refl

-- each law in the shape of a need of the code: as many of a room's bytes as it has
module _ (user : List ℕ) (w n : ℕ) (e : n ≡ min w (length user)) where
  pub few_taken : n ≡ length (take n user)
  few_taken = sym (length-take-le n user (omega arith))

  few_are : take n user ≡ take w user
  few_are = go (leb w (length user)) refl
    where
      go : (b : Bool) → leb w (length user) ≡ b → take n user ≡ take w user
      go true h = let m : n ≡ w = omega (arith, leb-true w (length user) h) in rw m
      go false h =
          let l : length user < w = leb-false w (length user) h in
          take_all n user (omega arith) ∙ sym (take_all w user (omega arith))

  pub first_put : (v : ℕ) → w ≡ v → (d out : List ℕ) (r : ℕ) → ◌≡◌ {A = Put} (put out r) (put_parts (take n user ∷ []) (put d 0))
      → out ≡ put_at d 0 (take v user)
  first_put v z d out r q = put_run_is (take n user) d out r q ∙ ap (put_at d 0) (few_are ∙ ap (λ k. take k user) z)

pub ruleset firsts = (few_taken, first_put)

module _ (s at : List ℕ) (b : Body) (user d : List ℕ) where
  pub lend_con : (x : Con) → b ≡ Body.Con x → d ≡ lent_after s at b user d
  unfolding lent_after
  lend_con x e = rw e

  pub lend_con_rsp : (x : ConRsp) → b ≡ Body.ConRsp x → d ≡ lent_after s at b user d
  unfolding lent_after
  lend_con_rsp x e = rw e

  pub lend_det : (x : Det) → b ≡ Body.Det x → d ≡ lent_after s at b user d
  unfolding lent_after
  lend_det x e = rw e

  pub lend_det_rsp : (x : ℕ) → b ≡ Body.DetRsp x → d ≡ lent_after s at b user d
  unfolding lent_after
  lend_det_rsp x e = rw e

  pub lend_att_prp : (x : AttPrp) → b ≡ Body.AttPrp x → d ≡ lent_after s at b user d
  unfolding lent_after
  lend_att_prp x e = rw e

  pub lend_det_prp : (x : ℕ) → b ≡ Body.DetPrp x → d ≡ lent_after s at b user d
  unfolding lent_after
  lend_det_prp x e = rw e

  pub lend_bare : (x : ℕ) → b ≡ Body.Bare x → d ≡ lent_after s at b user d
  unfolding lent_after
  lend_bare x e = rw e

  module _ (out : List ℕ) where
    pub lend_status : (x : StatusRsp) → b ≡ Body.StatusRsp x → (p : ℕ) → p ≡ get_or at 18 0 → out ≡ string_filled (judge (Kind.texts 0 (length d)) (shallow_at s p)) d
        → out ≡ lent_after s at b user d
    unfolding lent_after slot_of place_in keys
    lend_status x e p g q = rw e (q ∙ ap (λ (n : ℕ). string_filled (judge (Kind.texts 0 (length d)) (shallow_at s n)) d) g)

    pub lend_ul_data : (x : UlData) → b ≡ Body.UlData x → out ≡ put_at d 0 (take x.user_len user) → out ≡ lent_after s at b user d
    unfolding lent_after
    lend_ul_data x e q = rw e q

    module _ (x : DlDataQue) (e : b ≡ Body.DlDataQue x) (p : ℕ) (h : p ≡ get_or at 43 0) where
      pub lend_entries : Enters s at b → x.entries ≡ word_of (value_in (cell_at (Kind.pieces 16 245 800) s p))
      unfolding slot_of place_in keys
      lend_entries n = subst (Enters s at) e n ∙ ap (λ (k : ℕ). word_in (cell_at (Kind.pieces 16 245 800) s k)) (sym h)

      pub lend_downlink : (q : ℕ) → q ≡ get_or at 29 0
          → out ≡ put_at d 0 (downlink_bytes (views_of (value_in (cell_at (Kind.counters 16) s q))).counts (views_of (value_in (cell_at (Kind.pieces 16 245 800) s p))).strings)
          → out ≡ lent_after s at b user d
      unfolding lent_after slot_of place_in keys
      lend_downlink q g z =
          rw e
          (z ∙ ap₂ (λ (k l : ℕ). put_at d 0 (downlink_bytes (counts_in (cell_at (Kind.counters 16) s k)) (strings_in (cell_at (Kind.pieces 16 245 800) s l)))) g h)

pub ruleset lends = (lend_con, lend_con_rsp, lend_det, lend_det_rsp, lend_att_prp, lend_det_prp, lend_bare, lend_status, lend_ul_data, lend_entries, lend_downlink)
