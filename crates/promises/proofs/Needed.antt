-- Each condition of `Changed` is needed: a change that breaks one of them alone changes the reading. All in one table, by computation. Assumes nothing.
use mathlib.Core.{Path.◌≡◌, Path.refl, Bool.Bool, Bool.true, Bool.false, List.List, List.[], List.◌∷◌}
use Prim.Native.Nat.{ℕ}
use lib.{IntN.pos, IntN.negsuc}
use lib.Ieee.{Float, fin, of_bits, of_int, fits}
use Rattle.refusal.specs.declared.Refusal.{Refusal, TheVariants.KeyTwice, TheVariants.FieldMissing, TheVariants.Invalid}
use Rattle.octets.specs.Pieces.{counter_bytes, lengths_of, strung, downlink_bytes}
use Rattle.octets.specs.Number.{big_at}
use Rattle.element.specs.{Lead.lead_bytes, Lead.row_in, Tree.Tree, Tree.Tree.leaf, Tree.Tree.array, Tree.Tree.map, Tree.Trees.none, Tree.Trees.some, Tree.Pairs, Tree.Pairs.end, Tree.Pairs.pair, Meaning.meaning_of, Meaning.meaning_of_pairs}
use Rattle.names.specs.Names.{bytes, commands, place_in, name_at, command_of}
use Rattle.field.specs.Judge.{naturals_in, pieces_in, judge}
use Rattle.message.specs.Fields.{lists, list_in}
use Rattle.message.specs.Reading.{said_from, cells_of, gravest, look_in, place_among}
use Rattle.message.specs.declared.Maybe.{Maybe}
use Rattle.record.specs.declared.{Body.Body, Message.Message}
use Rattle.record.specs.Record.{body_in, message_of, lent_keys, data_of}
use Rattle.record.specs.Reading.{Reading, reading_as, reading_of}
use Rattle.promises.specs.Steady.{Rearranged, Default, Changed}
use Rattle.promises.proofs.Moves.{before, replaced}
use Rattle.promises.proofs.Instances.{text, lone, pairs, ping, ping_under, whole_rssi, uplink_telling, uplink_bare, uplink, uplink_heard, uplink_with, uplink_2, user_data}

-- pairs are refused, or read as this record with these bytes beside it
pub data Case : Type 0 where
  refused : Pairs → Refusal → Case
  read : Pairs → Message → List ℕ → Case

abbrev pub Holds : Case → Type 0
Holds (refused ps r) = reading_of (meaning_of_pairs ps) ≡ Reading.refused r
Holds (read ps m l) = reading_of (meaning_of_pairs ps) ≡ Reading.reads m l

abbrev pub AllHold : List Case → Type 0
AllHold [] = Unit {0}
AllHold (c ∷ cs) = Holds c × AllHold cs

-- a ulData with its rssi in one of MessagePack's forms
abbrev pub heard : ℕ → List ℕ → Pairs
heard b d = uplink_telling (lone 5) (leaf b [] d)

-- a ulData with an rssi inside the map of a strange key
abbrev pub made_by : Tree → Pairs
made_by rssi = pair (text "maker") (map 0x81 [] (pairs ((text "rssi", rssi) ∷ []))) uplink

-- a dlDataQue for any counter, with one data entry of one byte, and what stands behind that
abbrev pub queue : Pairs → Pairs
queue rest = before
    (pairs
    ((text "command", text "dlDataQue") ∷
    (text "opId", lone 0xFF) ∷
    (text "epEui", lone 7) ∷
    (text "queId", lone 1) ∷
    (text "cntDepend", lone 0xC2) ∷
    (text "userData", array 0x91 [] (some (array 0x91 [] (some (lone 9) none)) none)) ∷ []))
    rest

abbrev pub with_prio : Tree → Pairs
with_prio prio = queue (pair (text "prio") prio end)

abbrev not_said : Maybe Bool
not_said = record { here = false; value = false }

abbrev pub downlink_of : Float → Message
downlink_of prio = record {
  op_id = negsuc 0;
  body = Body.DlDataQue (record {
    ep_eui = 7;
    que_id = 1;
    cnt_depend = false;
    entries = 1;
    format = 0;
    prio = prio;
    response_exp = not_said;
    response_prio = not_said;
    dl_wind_req = not_said;
    exp_only = not_said;
  });
}

abbrev pub one_entry : List ℕ
one_entry = downlink_bytes [] ((9 ∷ []) ∷ [])

abbrev pub cases : List Case
cases =
    -- a key that the command has is put in: it stands twice
    refused (pair (text "opId") (lone 1) ping) KeyTwice ∷
    -- a key is written with another letter
    refused (pairs ((text "command", text "ping") ∷ (text "opID", lone 1) ∷ [])) FieldMissing ∷
    -- an ID is written as another number
    read (pairs ((text "command", text "ping") ∷ (text "opId", lone 2) ∷ [])) (ping_under 2) [] ∷
    -- an ID of 0 is left out, and not a format
    read (pairs ((text "opId", lone 0) ∷ (text "command", text "ping") ∷ [])) (ping_under 0) [] ∷
    refused (pairs ((text "command", text "ping") ∷ [])) FieldMissing ∷
    -- a format of 1 is left out
    read (pair (text "format") (lone 1) uplink_bare) (uplink_with 1) user_data ∷
    read uplink_bare (uplink_with 0) user_data ∷
    -- a format of 0 is left out where another stands: it stood twice
    refused (pair (text "format") (lone 0) uplink) KeyTwice ∷
    -- minus zero is not the whole number 0
    read (heard 0x00 []) (uplink_heard (fin false 0 (pos 0)) 0) user_data ∷
    read (heard 0xCB (0x80 ∷ 0 ∷ 0 ∷ 0 ∷ 0 ∷ 0 ∷ 0 ∷ 0 ∷ [])) (uplink_heard (fin true 0 (pos 0)) 0) user_data ∷
    -- 2^53 + 1 stands for no float, also not for the one next to it
    refused (heard 0xCF (0 ∷ 0x20 ∷ 0 ∷ 0 ∷ 0 ∷ 0 ∷ 0 ∷ 1 ∷ [])) Invalid ∷
    read (heard 0xCB (0x43 ∷ 0x40 ∷ 0 ∷ 0 ∷ 0 ∷ 0 ∷ 0 ∷ 0 ∷ [])) (uplink_heard (fin false 1 (pos 53)) 0) user_data ∷
    -- nor does 2^53 + 2, which a float 64 has
    refused (heard 0xCF (0 ∷ 0x20 ∷ 0 ∷ 0 ∷ 0 ∷ 0 ∷ 0 ∷ 2 ∷ [])) Invalid ∷
    read (heard 0xCB (0x43 ∷ 0x40 ∷ 0 ∷ 0 ∷ 0 ∷ 0 ∷ 0 ∷ 1 ∷ [])) (uplink_heard (fin false 0x10_0000_0000_0001 (pos 1)) 0) user_data ∷
    -- −96 is another reading than −97
    read (heard 0xD0 (0xA0 ∷ [])) (uplink_heard (fin true 3 (pos 5)) 0) user_data ∷
    read (uplink_telling (lone 5) whole_rssi) (uplink_with 0) user_data ∷
    -- a counter is no real: 5 as a float is refused
    refused (uplink_telling (leaf 0xCA [] (0x40 ∷ 0xA0 ∷ 0 ∷ 0 ∷ [])) whole_rssi) Invalid ∷
    -- a prio of 1 is left out, and minus zero: these are not plus zero
    read (with_prio (lone 1)) (downlink_of (fin false 1 (pos 0))) one_entry ∷
    read (with_prio (leaf 0xCB [] (0x80 ∷ 0 ∷ 0 ∷ 0 ∷ 0 ∷ 0 ∷ 0 ∷ 0 ∷ []))) (downlink_of (fin true 0 (pos 0))) one_entry ∷
    read (queue end) (downlink_of (fin false 0 (pos 0))) one_entry ∷
    -- a prio of 2^24 + 1 is no single, as a whole number and as a float 64
    refused (with_prio (leaf 0xCE [] (1 ∷ 0 ∷ 0 ∷ 1 ∷ []))) Invalid ∷
    refused (with_prio (leaf 0xCB [] (0x41 ∷ 0x70 ∷ 0 ∷ 0 ∷ 0x10 ∷ 0 ∷ 0 ∷ 0 ∷ []))) Invalid ∷
    -- under a strange key nothing is asked: 2^53 + 1 and a text are read alike
    read (made_by (leaf 0xCF [] (0 ∷ 0x20 ∷ 0 ∷ 0 ∷ 0 ∷ 0 ∷ 0 ∷ 1 ∷ []))) uplink_2 user_data ∷
    read (made_by (text "none")) uplink_2 user_data ∷
    []

pub all_hold : AllHold cases
unfolding big_at of_bits of_int fits meaning_of row_in lead_bytes said_from command_of place_in commands lists list_in naturals_in pieces_in strung lengths_of counter_bytes downlink_bytes judge cells_of gravest look_in place_among body_in message_of lent_keys name_at data_of reading_as reading_of
all_hold = (refl, (refl, (refl, (refl, (refl, (refl, (refl, (refl, (refl, (refl, (refl, (refl, (refl, (refl, (refl, (refl, (refl, (refl, (refl, (refl, (refl, (refl, (refl, (refl, tt))))))))))))))))))))))))

-- and so says the theorem's relation
pub strange_free : (v w : Tree) → Rearranged 7 (made_by v) (made_by w)
unfolding meaning_of row_in lead_bytes lists list_in
strange_free v w = replaced 7 (text "maker") (map 0x81 [] (pairs ((text "rssi", v) ∷ []))) (map 0x81 [] (pairs ((text "rssi", w) ∷ []))) uplink tt

-- plus zero may be left out of a dlDataQue, in each of its forms
pub prio_free : (v : Tree) → Default (bytes "prio") (meaning_of v) → Changed 21 (pair (text "prio") v (queue end)) (queue end)
unfolding meaning_of row_in lead_bytes said_from
prio_free v d = Changed.left_out {k = text "prio"} {v = v} {ps = queue end} d refl

pub plus_zeros : Default (bytes "prio") (meaning_of (lone 0)) × Default (bytes "prio") (meaning_of (leaf 0xCA [] (0 ∷ 0 ∷ 0 ∷ 0 ∷ []))) × Default (bytes "prio") (meaning_of (leaf 0xCB [] (0 ∷ 0 ∷ 0 ∷ 0 ∷ 0 ∷ 0 ∷ 0 ∷ 0 ∷ [])))
unfolding meaning_of row_in lead_bytes big_at
plus_zeros = (Default.prio, Default.prio32, Default.prio64)
