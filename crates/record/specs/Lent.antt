-- The bytes that a record has lent: as many of the first as it says, none for a command without such. Beside dlDataQue stand its counters and its
-- data entries, zeros in the places that it does not use.
use Rattle.std.specs.Prelude.{ℕ, List, [], take}
use Rattle.octets.specs.{Choice.either, Pieces.counters_lent, Pieces.pieces_lent, Pieces.downlink_bytes}
use Rattle.record.specs.declared.{Body.Body, Message.Message}

abbrev pub lent_by : Body → List ℕ → List ℕ
lent_by (Body.Con x) d = []
lent_by (Body.ConRsp x) d = []
lent_by (Body.StatusRsp x) d = take x.message_len d
lent_by (Body.Det x) d = []
lent_by (Body.DetRsp sign) d = []
lent_by (Body.AttPrp x) d = []
lent_by (Body.DetPrp eui) d = []
lent_by (Body.UlData x) d = take x.user_len d
lent_by (Body.DlDataQue x) d = downlink_bytes (either x.cnt_depend (λ _. counters_lent x.entries d) (λ _. [])) (pieces_lent x.entries d)
lent_by (Body.Bare c) d = []

abbrev pub lent_of : Message → List ℕ → List ℕ
lent_of m d = lent_by m.body d
