-- What the type of a record says of its fields: those that fit by their width alone, by the variant. `Is` is what a function is handed of a record.
-- Assumes nothing.
use mathlib.Core.{Path.◌≡◌, Bool.true, List.List}
use Prim.Native.Nat.{ℕ, suc, ◌<◌}
use native.Mathlib.Omega.{arith}
use lib.{IntN.ℤ, IntN.pos, IntN.negsuc, Signed.mag}
use mir.Val.{Val}
use denote.Laws.{Is}
use denote.Struct.Declared.{row}
use denote.Enum.Declared.{row as choiceRow}
use borrow.Author.Tests.{le-leb}
use Rattle.field.specs.Kind.{Kind, Value}
use Rattle.message.specs.declared.Version.{Version}
use Rattle.saying.specs.Fits.{within}
use Rattle.record.specs.declared.{Packet.Packet, Body.Body, Message.Message}
use Rattle.message.specs.contracts.Version as the-version
use Rattle.record.specs.contracts.Packet as the-packet
use Rattle.record.specs.contracts.Body as the-body
use Rattle.record.specs.contracts.Message as the-message

abbrev pub Typed : Message → List Val → Type 0
Typed m vs = Is (row the-message.the_type) m vs

abbrev TypedBody : Body → List Val → Type 0
TypedBody b vs = Is (choiceRow the-body.the_type) b vs

-- numbers of a width
abbrev pub Whole : ℕ → ℕ → Type 0
Whole hi x = within (Kind.wholes 0 hi) (Value.number (pos x)) ≡ true

abbrev pub Signed : ℕ → ℤ → Type 0
Signed hi z = within (Kind.wholes (suc hi) hi) (Value.number z) ≡ true

abbrev pub Release : Version → Type 0
Release v = within Kind.versions (Value.release v.major v.minor v.patch) ≡ true

whole : (hi x : ℕ) → x < suc hi → Whole hi x
unfolding within
whole hi x h = le-leb x hi (omega arith)

signed : (hi : ℕ) (z : ℤ) → mag z < suc hi → Signed hi z
unfolding within
signed hi (pos n) h = le-leb n hi (omega arith)
signed hi (negsuc k) h = le-leb (suc k) (suc hi) h

release : (v : Version) → v.major < 65536 → v.minor < 65536 → v.patch < 65536 → Release v
unfolding within
release v p q r = rw (le-leb v.major 65535 (omega arith), le-leb v.minor 65535 (omega arith), le-leb v.patch 65535 (omega arith))

abbrev word64 : ℕ
word64 = 0xFFFFFFFFFFFFFFFF

-- what fits by its width alone, in the order of the fields
abbrev pub PacketSure : Packet → Type 0
PacketSure p =
    Whole word64 p.ep_eui
    × Whole word64 p.rx_time
    × Whole word64 p.rx_duration.value
    × Whole 0xFFFFFFFF p.packet_cnt

abbrev pub Sure : Body → Type 0
Sure (Body.Con x) = Release x.version.value × Whole word64 x.bs_eui
Sure (Body.ConRsp x) = Release x.version.value × Whole word64 x.sc_eui
Sure (Body.StatusRsp x) = Signed 0x7FFFFFFF x.code × Whole word64 x.time × Whole word64 x.uptime.value
Sure (Body.Det x) = PacketSure x.packet
Sure (Body.DetRsp sign) = Unit {0}
Sure (Body.AttPrp x) = Whole word64 x.ep_eui × Whole 0xFFFF x.sh_addr × Whole 0xFFFFFFFF x.last_packet_cnt
Sure (Body.DetPrp eui) = Whole word64 eui
Sure (Body.UlData x) = PacketSure x.packet × Whole 0xFF x.format
Sure (Body.DlDataQue x) = Whole word64 x.ep_eui × Whole word64 x.que_id × Whole 0xFF x.format
Sure (Body.Bare c) = Unit {0}

of_version : (v : Version) (vs : List Val) → Is (row the-version.the_type) v vs → Release v
of_version v vs g = release v g.1.1.0.1 g.1.1.1.0.1 g.1.1.1.1.0.1

of_packet : (p : Packet) (vs : List Val) → Is (row the-packet.the_type) p vs → PacketSure p
of_packet p vs g = (
  whole word64 p.ep_eui g.1.1.0.1,
  whole word64 p.rx_time g.1.1.1.0.1,
  whole word64 p.rx_duration.value g.1.1.1.1.0.1.1.1.0.1,
  whole 0xFFFFFFFF p.packet_cnt g.1.1.1.1.1.0.1,
)

sure : (b : Body) (vs : List Val) → TypedBody b vs → Sure b
sure (Body.Con x) vs g =
    let f = g.1.1.1.1.0.1.1 in
    (of_version x.version.value _ f.0.1.1.1.0, whole word64 x.bs_eui f.1.0.1)
sure (Body.ConRsp x) vs g =
    let f = g.1.1.1.1.0.1.1 in
    (of_version x.version.value _ f.0.1.1.1.0, whole word64 x.sc_eui f.1.0.1)
sure (Body.StatusRsp x) vs g =
    let f = g.1.1.1.1.0.1.1 in
    (signed 0x7FFFFFFF x.code f.0.1, whole word64 x.time f.1.1.0.1, whole word64 x.uptime.value f.1.1.1.1.1.0.1.1.1.0.1)
sure (Body.Det x) vs g = of_packet x.packet _ g.1.1.1.1.0.1.1.0
sure (Body.DetRsp sign) vs g = tt
sure (Body.AttPrp x) vs g =
    let f = g.1.1.1.1.0.1.1 in
    (whole word64 x.ep_eui f.0.1, whole 0xFFFF x.sh_addr f.1.1.1.0.1, whole 0xFFFFFFFF x.last_packet_cnt f.1.1.1.1.0.1)
sure (Body.DetPrp eui) vs g = whole word64 eui g.1.1.1.1.0.1
sure (Body.UlData x) vs g =
    let f = g.1.1.1.1.0.1.1 in
    (of_packet x.packet _ f.0, whole 0xFF x.format f.1.1.0.1)
sure (Body.DlDataQue x) vs g =
    let f = g.1.1.1.1.0.1.1 in
    (whole word64 x.ep_eui f.0.1, whole word64 x.que_id f.1.0.1, whole 0xFF x.format f.1.1.1.1.0.1)
sure (Body.Bare c) vs g = tt

module _ (m : Message) (vs : List Val) (g : Typed m vs) where
  pub op_id : Signed 0x7FFFFFFFFFFFFFFF m.op_id
  op_id = signed 0x7FFFFFFFFFFFFFFF m.op_id g.1.1.0.1

  pub body : Sure m.body
  body = sure m.body _ g.1.1.1.0
