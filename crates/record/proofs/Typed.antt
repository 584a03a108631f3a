-- What the type of a record says of the numbers that stand for its bytes, by variant: each has its width. `Is (row the_type) m vs` is what a function
-- that takes a record is handed of it, and `typed` takes the widths from it. Assumes nothing.
use mathlib.Core.List.{List}
use Prim.Native.Nat.{◌^◌, ◌<◌}
use lib.IntN.{ℤ}
use mir.Val.{Val}
use denote.Laws.{Is}
use denote.Struct.Declared.{row}
use Rattle.record.specs.declared.{Sixteen.Sixteen, Packet.Packet, Body.Body, Message.Message}
use Rattle.record.specs.contracts.Message.{the_type}
use Rattle.record.specs.contracts.Sixteen as the-sixteen
use Rattle.record.specs.contracts.Packet as the-packet

pub record Wide (x : Sixteen) : Type 0 where
  pub high : x.high < 2 ^ 64
  pub low : x.low < 2 ^ 64

abbrev pub TypedBody : Body → Type 0
TypedBody (Body.Con x) = Wide x.sn_bs_uuid
TypedBody (Body.ConRsp x) = Wide x.sn_sc_uuid
TypedBody (Body.StatusRsp x) = Unit {0}
TypedBody (Body.Det x) = Wide x.packet.profile × (x.sign < 2 ^ 32)
TypedBody (Body.DetRsp sign) = sign < 2 ^ 32
TypedBody (Body.AttPrp x) = Wide x.nwk_sn_key
TypedBody (Body.DetPrp eui) = Unit {0}
TypedBody (Body.UlData x) = Wide x.packet.profile
TypedBody (Body.DlDataQue x) = Unit {0}
TypedBody (Body.Bare c) = Unit {0}

abbrev pub Typed : Message → Type 0
Typed m = TypedBody m.body

wide : (x : Sixteen) (vs : List Val) → Is (row the-sixteen.the_type) x vs → Wide x
wide x vs g = record { high = g.1.1.0.1; low = g.1.1.1.0.1 }

wide_profile : (p : Packet) (vs : List Val) → Is (row the-packet.the_type) p vs → Wide p.profile
wide_profile p vs g = wide p.profile _ g.1.1.1.1.1.1.1.1.0

typed_body : (o : ℤ) (b : Body) (vs : List Val) → Is (row the_type) (record { op_id = o; body = b }) vs → TypedBody b
typed_body o (Body.Con x) vs g = wide x.sn_bs_uuid _ g.1.1.1.0.1.1.1.1.0.1.1.1.1.1.1.0
typed_body o (Body.ConRsp x) vs g = wide x.sn_sc_uuid _ g.1.1.1.0.1.1.1.1.0.1.1.1.1.1.0
typed_body o (Body.StatusRsp x) vs g = tt
typed_body o (Body.Det x) vs g =
    (wide_profile x.packet _ g.1.1.1.0.1.1.1.1.0.1.1.0, g.1.1.1.0.1.1.1.1.0.1.1.1.0.1)
typed_body o (Body.DetRsp sign) vs g = g.1.1.1.0.1.1.1.1.0.1
typed_body o (Body.AttPrp x) vs g = wide x.nwk_sn_key _ g.1.1.1.0.1.1.1.1.0.1.1.1.1.0
typed_body o (Body.DetPrp eui) vs g = tt
typed_body o (Body.UlData x) vs g = wide_profile x.packet _ g.1.1.1.0.1.1.1.1.0.1.1.0
typed_body o (Body.DlDataQue x) vs g = tt
typed_body o (Body.Bare c) vs g = tt

pub typed : (m : Message) (vs : List Val) → Is (row the_type) m vs → Typed m
typed m vs g = typed_body m.op_id m.body vs g
