-- A record's image has 104 bytes and is taken as the record, for every record that a program can hold: no two of its stretches overlap. So no two
-- records have one image. Assumes nothing.
use mathlib.Core.Path.{◌≡◌, refl, sym, ap, ◌∙◌}
use mathlib.Core.Bool.{true, false, not, ◌&&◌}
use mathlib.Core.List.{List, ◌++◌, map}
use Prim.Native.Nat.{ℕ, ◌≤◌}
use lib.Dec.{T, eqb, leb, ltb, leb→le}
use lib.{IntN.ℤ, ListN.length}
use Rattle.octets.proofs.Ranges.{true_is, both_left}
use Rattle.names.specs.Names.{downlink}
use Rattle.record.specs.declared.{Body.Body, Message.Message}
use Rattle.record.specs.{Record.command_in, Record.body_in, Says.is_named}
use Rattle.record.proofs.Commands.{bare_other}
use Rattle.layout.specs.Image.{con_lies, con_rsp_lies, status_rsp_lies, packet_lies, det_lies, att_prp_lies, ul_data_lies, dl_data_que_lies, body_lies, head_lies, message_lies, laid, clear_image, message_size, message_image}
use Rattle.layout.specs.Taken.{marks_of, number_at, signed_at, are_marks, whole_at, body_at, message_at}
use Rattle.layout.proofs.Taking.{body_bare, marked_past}
use Rattle.layout.proofs.Parts.{con_of, con_rsp_of, status_rsp_of, det_of, att_prp_of, ul_data_of, dl_data_que_of}
use Rattle.layout.proofs.Lying.{taken_in, marks_in, AllFit, apart, all_taken, length_laid}

-- a body that the image tells apart: a bare one has none of the nine commands that have fields
abbrev pub Own : Body → Type 0
Own (Body.Con x) = Unit {0}
Own (Body.ConRsp x) = Unit {0}
Own (Body.StatusRsp x) = Unit {0}
Own (Body.Det x) = Unit {0}
Own (Body.DetRsp sign) = Unit {0}
Own (Body.AttPrp x) = Unit {0}
Own (Body.DetPrp eui) = Unit {0}
Own (Body.UlData x) = Unit {0}
Own (Body.DlDataQue x) = Unit {0}
Own (Body.Bare c) = (8 ≤ c) × (eqb c downlink ≡ false)

-- a body that has one of the 24 names is such
pub named_own : (b : Body) → is_named b ≡ true → Own b
named_own (Body.Con x) e = tt
named_own (Body.ConRsp x) e = tt
named_own (Body.StatusRsp x) e = tt
named_own (Body.Det x) e = tt
named_own (Body.DetRsp sign) e = tt
named_own (Body.AttPrp x) e = tt
named_own (Body.DetPrp eui) e = tt
named_own (Body.UlData x) e = tt
named_own (Body.DlDataQue x) e = tt
named_own (Body.Bare c) e =
    let t = true_is (is_named (Body.Bare c)) (sym e) in
    (leb→le 8 c (both_left (leb 8 c) (ltb c 24 && not (eqb c downlink)) t), bare_other c t)

-- a record that a program can hold: each value has the width of its stretch, which is that of its type
pub record Held (m : Message) : Type 0 where
  pub own : Own m.body
  pub widths : AllFit (message_lies m)

body_of : (d : List ℕ) (b : Body) → Own b → map (taken_in d) (body_lies b) ≡ body_lies b → whole_at d (command_in b) ≡ b
unfolding body_in body_lies
body_of d (Body.Con x) o e = ap Body.Con (con_of d x x e)
body_of d (Body.ConRsp x) o e = ap Body.ConRsp (con_rsp_of d x x e)
body_of d (Body.StatusRsp x) o e = ap Body.StatusRsp (status_rsp_of d x x e)
body_of d (Body.Det x) o e = ap Body.Det (det_of d x x e)
body_of d (Body.DetRsp sign) o e = cc
body_of d (Body.AttPrp x) o e = ap Body.AttPrp (att_prp_of d x x e)
body_of d (Body.DetPrp eui) o e = cc
body_of d (Body.UlData x) o e = ap Body.UlData (ul_data_of d x x e)
body_of d (Body.DlDataQue x) o e = ap Body.DlDataQue (dl_data_que_of d x x e)
body_of d (Body.Bare c) o e = sym (body_bare d c o.0 o.1)

-- the marks of a command are those of its stretches
pub marks_are : (d : List ℕ) (b : Body) → Own b → are_marks d (marks_of (command_in b)) ≡ marks_in d (body_lies b)
unfolding are_marks body_lies con_lies con_rsp_lies status_rsp_lies packet_lies det_lies att_prp_lies ul_data_lies dl_data_que_lies
marks_are d (Body.Con x) o = refl
marks_are d (Body.ConRsp x) o = refl
marks_are d (Body.StatusRsp x) o = refl
marks_are d (Body.Det x) o = refl
marks_are d (Body.DetRsp sign) o = refl
marks_are d (Body.AttPrp x) o = refl
marks_are d (Body.DetPrp eui) o = refl
marks_are d (Body.UlData x) o = refl
marks_are d (Body.DlDataQue x) o = refl
marks_are d (Body.Bare c) o = sym (marked_past d c o.0 o.1)

-- no two stretches overlap
all_apart : (z : ℤ) (b : Body) → T (apart (head_lies z (command_in b) ++ body_lies b) message_size)
unfolding body_lies con_lies con_rsp_lies status_rsp_lies packet_lies det_lies att_prp_lies ul_data_lies dl_data_que_lies
all_apart z (Body.Con x) = tt
all_apart z (Body.ConRsp x) = tt
all_apart z (Body.StatusRsp x) = tt
all_apart z (Body.Det x) = tt
all_apart z (Body.DetRsp sign) = tt
all_apart z (Body.AttPrp x) = tt
all_apart z (Body.DetPrp eui) = tt
all_apart z (Body.UlData x) = tt
all_apart z (Body.DlDataQue x) = tt
all_apart z (Body.Bare c) = tt

pub image_size : (m : Message) → length (message_image m) ≡ message_size
unfolding message_image clear_image
image_size m = length_laid (message_lies m) clear_image

-- the record of what is taken
record_of : (d : List ℕ) (m : Message) → Own m.body → map (taken_in d) (message_lies m) ≡ message_lies m → marks_in d (message_lies m) ≡ true → message_at d ≡ m
unfolding message_at body_at
record_of d m o e f =
    let z : signed_at d 8 0 ≡ m.op_id = cc in
    let c : number_at d 1 8 ≡ command_in m.body = cc in
    let r : map (taken_in d) (body_lies m.body) ≡ body_lies m.body = cc in
    rw (z, c, marks_are d m.body o, f) (λ i. record { op_id = m.op_id; body = body_of d m.body o r i })

pub message_back : (m : Message) → Held m → message_at (message_image m) ≡ m
unfolding message_image clear_image
message_back m h =
    let r = all_taken message_size (message_lies m) clear_image refl (all_apart m.op_id m.body) h.widths in
    record_of (laid (message_lies m) clear_image) m h.own r.0 r.1

-- no two records have one image
pub one_record : (m n : Message) → Held m → Held n → message_image m ≡ message_image n → m ≡ n
one_record m n g h e = sym (message_back m g) ∙ ap message_at e ∙ message_back n h
