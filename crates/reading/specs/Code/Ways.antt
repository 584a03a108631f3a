-- For the private steps of reading. No statement of a public function rests on this page.
use Rattle.std.specs.Prelude.{ℕ, Ok, Err}
use mathlib.Core.{Path.◌≡◌, List.List}
use lib.{Dec.ltb, ListN.length, ListN.take, ListN.get_or}
use Rattle.refusal.specs.declared.Refusal.TheVariants.{LeftOver}
use Rattle.octets.specs.{Choice.either, Bytes.put_at, Pieces.downlink_bytes}
use Rattle.element.specs.Form.{Step}
use Rattle.names.specs.{Names.bytes, Code.Slots.slot_of}
use Rattle.field.specs.{Kind.Kind, Judge.judge, Cell.Cell, Code.At.shallow_at, Code.At.cell_at, Code.At.string_filled}
use Rattle.message.specs.{Fields.fields_of, Record.word_in, Code.Cells.cells_at}
use Rattle.record.specs.declared.Body.{Body}
use Rattle.record.specs.{Record.counts_in, Record.strings_in, Reading.reading_by, Meant.Answered, Meant.breaks, Meant.answer_of, Code.Places.reading_at}

-- the cells of a downlink's counters and data entries
abbrev pub counters_at : List ℕ → List ℕ → Cell
counters_at s at = cell_at (Kind.counters 16) s (get_or at (slot_of (bytes "packetCnt")) 0)

abbrev pub entries_at : List ℕ → List ℕ → Cell
entries_at s at = cell_at (Kind.pieces 16 245 800) s (get_or at (slot_of (bytes "userData")) 0)

-- a downlink has as many data entries as stand there
abbrev pub Enters : List ℕ → List ℕ → Body → Type 0
Enters s at (Body.Con x) = Unit {0}
Enters s at (Body.ConRsp x) = Unit {0}
Enters s at (Body.StatusRsp x) = Unit {0}
Enters s at (Body.Det x) = Unit {0}
Enters s at (Body.DetRsp sign) = Unit {0}
Enters s at (Body.AttPrp x) = Unit {0}
Enters s at (Body.DetPrp eui) = Unit {0}
Enters s at (Body.UlData x) = Unit {0}
Enters s at (Body.DlDataQue x) = x.entries ≡ word_in (entries_at s at)
Enters s at (Body.Bare c) = Unit {0}

-- the lent bytes with those of a record at their start: of ulData from its room, of statusRsp and dlDataQue from where their fields stand
unfoldable pub lent_after : List ℕ → List ℕ → Body → List ℕ → List ℕ → List ℕ
lent_after s at (Body.Con x) user d = d
lent_after s at (Body.ConRsp x) user d = d
lent_after s at (Body.StatusRsp x) user d = string_filled (judge (Kind.texts 0 (length d)) (shallow_at s (get_or at (slot_of (bytes "message")) 0))) d
lent_after s at (Body.Det x) user d = d
lent_after s at (Body.DetRsp sign) user d = d
lent_after s at (Body.AttPrp x) user d = d
lent_after s at (Body.DetPrp eui) user d = d
lent_after s at (Body.UlData x) user d = put_at d 0 (take x.user_len user)
lent_after s at (Body.DlDataQue x) user d = put_at d 0 (downlink_bytes (counts_in (counters_at s at)) (strings_in (entries_at s at)))
lent_after s at (Body.Bare c) user d = d

-- the fields of a command that we know
unfoldable pub fields_by : List ℕ → List ℕ → ℕ → ℕ → List ℕ → Answered
fields_by s places c count d = answer_of count d (reading_by c (fields_of c) (cells_at (fields_of c) s places))

-- a payload whose form is whole
unfoldable pub named_by : List ℕ → List ℕ → ℕ → List ℕ → Answered
named_by s places count d = answer_of count d (reading_at s places)

-- by the walk's answer
unfoldable pub stepped_by : List ℕ → List ℕ → List ℕ → Step → Answered
stepped_by s places d (Err b) = breaks b d
stepped_by s places d (Ok n) =
    either (ltb n.at (length s)) (λ _. breaks (record { refusal = LeftOver; place = n.at }) d) (λ _. named_by s places n.count d)
