-- What the type of a record says of it: each of its values has room in its stretch, by the variant. `Is` is what a function is handed of a record.
-- So a named record that is put into a message is the record of that message. Assumes nothing.
use mathlib.Core.{Path.◌≡◌, Path.ap, Path.◌∙◌, Bool.true}
use mathlib.Core.List.{List, [], ◌∷◌, ◌++◌}
use Prim.Native.Nat.{ℕ, ◌^◌, ◌<◌}
use lib.{Dec.lit<, Ieee.fits, Ieee.binary64, ListN.length}
use mir.Val.{Val}
use denote.Laws.{Is}
use denote.Struct.Declared.{row}
use denote.Enum.Declared.{row as choiceRow}
use Rattle.field.specs.declared.Position.{Position}
use Rattle.message.specs.declared.Version.{Version}
use Rattle.record.specs.declared.{Sixteen.Sixteen, Con.Con, ConRsp.ConRsp, StatusRsp.StatusRsp, Packet.Packet, Det.Det, AttPrp.AttPrp, UlData.UlData}
use Rattle.record.specs.declared.{DlDataQue.DlDataQue, Body.Body, Message.Message}
use Rattle.record.specs.{Record.command_in, Says.is_named}
use Rattle.field.specs.contracts.Position as the-place
use Rattle.message.specs.contracts.Version as the-version
use Rattle.record.specs.contracts.Sixteen as the-sixteen
use Rattle.record.specs.contracts.Con as the-con
use Rattle.record.specs.contracts.ConRsp as the-con-rsp
use Rattle.record.specs.contracts.StatusRsp as the-status-rsp
use Rattle.record.specs.contracts.Packet as the-packet
use Rattle.record.specs.contracts.Det as the-det
use Rattle.record.specs.contracts.AttPrp as the-att-prp
use Rattle.record.specs.contracts.UlData as the-ul-data
use Rattle.record.specs.contracts.DlDataQue as the-dl-data-que
use Rattle.record.specs.contracts.Body as the-body
use Rattle.record.specs.contracts.Message as the-message
use Rattle.layout.specs.Image.{Stretch, con_lies, con_rsp_lies, status_rsp_lies, packet_lies, det_lies, att_prp_lies, ul_data_lies, dl_data_que_lies, body_lies, message_lies, message_size, message_image}
use Rattle.layout.specs.Taken.{message_at}
use Rattle.layout.proofs.{Lying.AllFit, Back.named_own, Back.message_back}

-- the parts that several records have; the value of one that may be absent stands at `.1.1.1.0` of what is said of it
record Reals (x : Position) : Type 0 where
  latitude : fits binary64 x.latitude ≡ true
  longitude : fits binary64 x.longitude ≡ true
  altitude : fits binary64 x.altitude ≡ true

of_position : (x : Position) (vs : List Val) → Is (row the-place.the_type) x vs → Reals x
of_position x vs g = let f = g.1.1 in record { latitude = f.0.1; longitude = f.1.0.1; altitude = f.1.1.0.1 }

record Wide (x : Sixteen) : Type 0 where
  high : x.high < 256 ^ 8
  low : x.low < 256 ^ 8

of_sixteen : (x : Sixteen) (vs : List Val) → Is (row the-sixteen.the_type) x vs → Wide x
of_sixteen x vs g = record { high = g.1.1.0.1; low = g.1.1.1.0.1 }

record Numbers (v : Version) : Type 0 where
  major : v.major < 256 ^ 2
  minor : v.minor < 256 ^ 2
  patch : v.patch < 256 ^ 2

of_version : (v : Version) (vs : List Val) → Is (row the-version.the_type) v vs → Numbers v
of_version v vs g = let f = g.1.1 in record { major = f.0.1; minor = f.1.0.1; patch = f.1.1.0.1 }

-- the fields of each command, in the order of their stretches
of_con : (x : Con) (vs : List Val) → Is (row the-con.the_type) x vs → AllFit (con_lies x)
unfolding con_lies
of_con x vs g =
    let f = g.1.1 in
    let v = of_version x.version.value _ f.0.1.1.1.0 in
    let p = of_position x.geo_location.value _ f.1.1.1.0.1.1.1.0 in
    let u = of_sixteen x.sn_bs_uuid _ f.1.1.1.1.0 in
    let b = f.1.1.1.1.1.0.1.1.1.0.1 in
    let s = f.1.1.1.1.1.1.0.1.1.1.0.1 in
    (f.1.0.1, (b, (s, (p.latitude, (p.longitude, (p.altitude, (u.high, (u.low, (v.major, (v.minor, (v.patch, (tt, (tt, (tt, (tt, (tt, tt))))))))))))))))

of_con_rsp : (x : ConRsp) (vs : List Val) → Is (row the-con-rsp.the_type) x vs → AllFit (con_rsp_lies x)
unfolding con_rsp_lies
of_con_rsp x vs g =
    let f = g.1.1 in
    let v = of_version x.version.value _ f.0.1.1.1.0 in
    let u = of_sixteen x.sn_sc_uuid _ f.1.1.1.0 in
    (f.1.0.1, (u.high, (u.low, (v.major, (v.minor, (v.patch, (tt, (tt, tt))))))))

of_status_rsp : (x : StatusRsp) (vs : List Val) → Is (row the-status-rsp.the_type) x vs → AllFit (status_rsp_lies x)
unfolding status_rsp_lies
of_status_rsp x vs g =
    let f = g.1.1 in
    let p = of_position x.geo_location.value _ f.1.1.1.1.0.1.1.1.0 in
    let u = f.1.1.1.1.1.0.1.1.1.0.1 in
    let t = f.1.1.1.1.1.1.0.1.1.1.0.1 in
    let c = f.1.1.1.1.1.1.1.0.1.1.1.0.1 in
    let m = f.1.1.1.1.1.1.1.1.0.1.1.1.0.1 in
    (f.1.1.0.1, (u, (f.1.1.1.0.1, (p.latitude, (p.longitude, (p.altitude, (t, (c, (m, (f.0.1, (f.1.0.1, (tt, (tt, (tt, (tt, (tt, tt))))))))))))))))

of_packet : (x : Packet) (vs : List Val) → Is (row the-packet.the_type) x vs → AllFit (packet_lies x)
unfolding packet_lies
of_packet x vs g =
    let f = g.1.1 in
    let d = f.1.1.0.1.1.1.0.1 in
    let s = f.1.1.1.1.0.1.1 in
    let u = of_sixteen x.profile _ f.1.1.1.1.1.1.0 in
    (f.0.1, (f.1.0.1, (d, (s.0.1, (s.1.0.1, (s.1.1.0.1.1.1.0.1, (u.high, (u.low, (f.1.1.1.0.1, (f.1.1.1.1.1.0.1, (tt, (tt, tt))))))))))))

-- what stands behind a packet
joined : (ss ts : List Stretch) → AllFit ss → AllFit ts → AllFit (ss ++ ts)
joined [] ts f g = g
joined (s ∷ ss) ts f g = (f.0, joined ss ts f.1 g)

of_det : (x : Det) (vs : List Val) → Is (row the-det.the_type) x vs → AllFit (det_lies x)
unfolding det_lies
of_det x vs g = joined (packet_lies x.packet) _ (of_packet x.packet _ g.1.1.0) (g.1.1.1.0.1, tt)

of_att_prp : (x : AttPrp) (vs : List Val) → Is (row the-att-prp.the_type) x vs → AllFit (att_prp_lies x)
unfolding att_prp_lies
of_att_prp x vs g =
    let f = g.1.1 in
    let u = of_sixteen x.nwk_sn_key _ f.1.1.0 in
    (f.0.1, (u.high, (u.low, (f.1.1.1.1.0.1, (f.1.1.1.0.1, (tt, (tt, (tt, (tt, (tt, tt))))))))))

of_ul_data : (x : UlData) (vs : List Val) → Is (row the-ul-data.the_type) x vs → AllFit (ul_data_lies x)
unfolding ul_data_lies
of_ul_data x vs g =
    let f = g.1.1 in
    joined (packet_lies x.packet) _ (of_packet x.packet _ f.0) (f.1.0.1, (f.1.1.0.1, (tt, (tt, (tt, tt)))))

of_dl_data_que : (x : DlDataQue) (vs : List Val) → Is (row the-dl-data-que.the_type) x vs → AllFit (dl_data_que_lies x)
unfolding dl_data_que_lies
of_dl_data_que x vs g =
    let f = g.1.1 in
    let r = f.1.1.1 in
    (f.0.1, (f.1.0.1, (r.1.1.0.1, (r.0.1, (r.1.0.1, (tt, (tt, (tt, (tt, (tt, (tt, (tt, (tt, (tt, tt))))))))))))))

-- the command and the fields behind it
body_widths : (b : Body) (vs : List Val) → Is (choiceRow the-body.the_type) b vs → (command_in b < 256 ^ 1) × AllFit (body_lies b)
unfolding body_lies
body_widths (Body.Con x) vs g = (lit< tt, of_con x _ g.1.1.1.1.0)
body_widths (Body.ConRsp x) vs g = (lit< tt, of_con_rsp x _ g.1.1.1.1.0)
body_widths (Body.StatusRsp x) vs g = (lit< tt, of_status_rsp x _ g.1.1.1.1.0)
body_widths (Body.Det x) vs g = (lit< tt, of_det x _ g.1.1.1.1.0)
body_widths (Body.DetRsp sign) vs g = (lit< tt, (g.1.1.1.1.0.1, tt))
body_widths (Body.AttPrp x) vs g = (lit< tt, of_att_prp x _ g.1.1.1.1.0)
body_widths (Body.DetPrp eui) vs g = (lit< tt, (g.1.1.1.1.0.1, tt))
body_widths (Body.UlData x) vs g = (lit< tt, of_ul_data x _ g.1.1.1.1.0)
body_widths (Body.DlDataQue x) vs g = (lit< tt, of_dl_data_que x _ g.1.1.1.1.0)
body_widths (Body.Bare c) vs g = (g.1.1.1.1.0.1, tt)

pub widths : (m : Message) (vs : List Val) → Is (row the-message.the_type) m vs → AllFit (message_lies m)
widths m vs g = let b = body_widths m.body _ g.1.1.1.0 in (g.1.1.0.1, (b.0, b.1))

-- a record that the code has, under one of the 24 names, is that of its image
pub named_back : (m : Message) (vs : List Val) → Is (row the-message.the_type) m vs → is_named m.body ≡ true → message_at (message_image m) ≡ m
named_back m vs g n = message_back m (record { own = named_own m.body n; widths = widths m vs g })

-- each in the shape of a need of `put_message`
module _ (m : Message) (vs : List Val) (g : Is (row the-message.the_type) m vs) (d : List ℕ) where
  pub back_in : (a : List ℕ) → a ≡ message_image m → length d ≡ message_size → is_named m.body ≡ true → message_at a ≡ m
  back_in a e l n = ap message_at e ∙ named_back m vs g n

  pub back_out : (length d ≡ message_size → ⊥) → length d ≡ message_size → is_named m.body ≡ true → message_at d ≡ m
  back_out h l n = absurd (h l)

pub ruleset backs = (back_in, back_out)
