-- The most bytes that the frame of a record takes: what a session replies with is short.
use Rattle.std.specs.Prelude.{ℕ}
use Rattle.record.specs.declared.Body.{Body}

abbrev pub frame_most : Body → ℕ
frame_most (Body.Con x) = 1909
frame_most (Body.ConRsp x) = 145
frame_most (Body.StatusRsp x) = 1909
frame_most (Body.Det x) = 1909
frame_most (Body.DetRsp sign) = 145
frame_most (Body.AttPrp x) = 1909
frame_most (Body.DetPrp eui) = 1909
frame_most (Body.UlData x) = 1909
frame_most (Body.DlDataQue x) = 1909
frame_most (Body.Bare c) = 145
