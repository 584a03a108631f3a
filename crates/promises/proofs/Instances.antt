-- The theorem at work on written-out bytes: what it asks of two payloads, what it concludes of them, and the record that both are read as,
-- all by computation. A position stands in Located. Assumes nothing.
use mathlib.Core.Path.{◌≡◌, refl, ap, ◌∙◌}
use mathlib.Core.Bool.{true, false}
use mathlib.Core.List.{List, [], ◌∷◌, ◌++◌}
use Prim.Native.{Nat.ℕ, Nat.◌+◌, Nat.◌≤◌, String.String}
use lib.{Dec.lit<, Dec.lit≤, IntN.pos, IntN.negsuc, ListN.length, ListN.take, ListN.drop}
use lib.Ieee.{Float, fin, of_bits, of_int}
use Rattle.octets.specs.Number.{big_at}
use Rattle.element.specs.{Lead.lead_bytes, Lead.row_in, Lead.head_of, Tree.Tree.leaf, Tree.Tree.array, Tree.Tree.map, Tree.Trees.none, Tree.Trees.some}
use Rattle.element.specs.{Tree.Pairs.end, Tree.Pairs.pair, Meaning.meaning_of, Meaning.meaning_of_pairs}
use Rattle.element.specs.Tree.{Tree, Trees, Pairs, bytes_of, count_of, depth_of, part_count, pair_count}
use Rattle.names.specs.Names.{bytes, commands, place_in, name_at, command_of}
use Rattle.field.specs.{Kind.Kind, Judge.naturals_in, Judge.judge, Cell.zero64}
use Rattle.message.specs.Fields.{lists, list_in, fields_of}
use Rattle.message.specs.Reading.{said_from, cells_of, gravest, look_in, place_among}
use Rattle.record.specs.declared.{Body.Body, Message.Message}
use Rattle.record.specs.Record.{body_in, message_of, lent_keys, data_of}
use Rattle.record.specs.{Reading.Reading, Reading.reading_as, Reading.reading_of, Code.Places.answer_at}
use Rattle.record.specs.Meant.{Answered, answer_of, lent_size, Meant}
use Rattle.record.proofs.Answered.{answer_meant}
use Rattle.promises.specs.Steady.{Default, SameReal, StandsFor, Rearranged, Changed, Known, Carries, Alike}
use Rattle.promises.proofs.{Steady.steady, Tested.is_lawful, Tested.is_payload, Tested.says, Tested.of_kind}
use Rattle.promises.proofs.Moves.{behind, turned, before, moved, put_in, inside, turn, respelled}

-- all that the theorem asks of two payloads
pub record Instance (c : ℕ) (s t : List ℕ) (ps qs : Pairs) : Type 0 where
  pub first : Carries s ps
  pub second : Carries t qs
  pub known : Known c ps
  pub change : Changed c ps qs

-- both are read as this record with these bytes beside it
abbrev pub BothRead : Pairs → Pairs → Message → List ℕ → Type 0
BothRead ps qs m l = (reading_of (meaning_of_pairs ps) ≡ Reading.reads m l) × (reading_of (meaning_of_pairs qs) ≡ Reading.reads m l)

module _ (c : ℕ) (s t : List ℕ) (ps qs : Pairs) (i : Instance c s t ps qs) where
  -- the theorem's conclusion
  pub alike : (d : List ℕ) (r q : Answered) → Meant s d r → Meant t d q → Alike r q
  alike d r q = steady c s t ps qs d r q i.first i.second i.known i.change

  -- and of the answers that there are: nothing is left to assume
  pub told_alike : (d : List ℕ) → Alike (answer_at s d) (answer_at t d)
  told_alike d = alike d (answer_at s d) (answer_at t d) (answer_meant s d) (answer_meant t d)

-- what is answered to a payload that is read as a record: the record with its bytes, and the count of its elements
pub answered : (s : List ℕ) (ps : Pairs) (S : Carries s ps) (m : Message) (l : List ℕ) → reading_of (meaning_of_pairs ps) ≡ Reading.reads m l
    → (d : List ℕ) → lent_size ≤ length d → (r : Answered) → Meant s d r → r ≡ answer_of (count_of (map S.lead S.size ps)) d (Reading.reads m l)
unfolding meaning_of
answered s ps S m l e d h r M = M.whole h (map S.lead S.size ps) S.payload ∙ ap (answer_of (count_of (map S.lead S.size ps)) d) e

-- a text with its length in the lead byte, and with a byte of length
abbrev pub text : String → Tree
text k = leaf (0xA0 + length (bytes k)) [] (bytes k)

abbrev pub wide_text : String → Tree
wide_text k = leaf 0xD9 (length (bytes k) ∷ []) (bytes k)

-- an element that is a lead byte alone
abbrev pub lone : ℕ → Tree
lone b = leaf b [] []

abbrev pub pairs : List (Tree × Tree) → Pairs
pairs [] = end
pairs (p ∷ l) = pair p.0 p.1 (pairs l)

-- the payload P of document 01: `command` with `ping`, `opId` with 1
abbrev pub P : List ℕ
P = 0x82 ∷ 0xA7 ∷ 0x63 ∷ 0x6F ∷ 0x6D ∷ 0x6D ∷ 0x61 ∷ 0x6E ∷ 0x64 ∷ 0xA4 ∷ 0x70 ∷ 0x69 ∷ 0x6E ∷ 0x67 ∷ 0xA4 ∷ 0x6F ∷ 0x70 ∷ 0x49 ∷ 0x64 ∷ 0x01 ∷ []

abbrev pub ping : Pairs
ping = pairs ((text "command", text "ping") ∷ (text "opId", lone 1) ∷ [])

pub ping_said : Carries P ping
unfolding is_payload is_lawful head_of row_in lead_bytes bytes_of count_of depth_of pair_count big_at
ping_said = says P 0x82 [] ping tt

pub ping_known : Known 9 ping
unfolding meaning_of row_in lead_bytes said_from command_of place_in commands
ping_known = record { name = bytes "ping"; said = refl; is = refl; ours = lit< tt }

-- First: P with 83 and A5 65 70 45 75 69 07 added, an epEui of 7, which ping does not have
abbrev pub P-added : List ℕ
P-added = 0x83 ∷ drop 1 P ++ 0xA5 ∷ 0x65 ∷ 0x70 ∷ 0x45 ∷ 0x75 ∷ 0x69 ∷ 0x07 ∷ []

abbrev pub ping_added : Pairs
ping_added = pairs ((text "command", text "ping") ∷ (text "opId", lone 1) ∷ (text "epEui", lone 7) ∷ [])

pub added : Instance 9 P P-added ping ping_added
unfolding is_payload is_lawful head_of row_in lead_bytes bytes_of count_of depth_of pair_count big_at lists list_in
added = record {
  first = ping_said;
  second = says P-added 0x83 [] ping_added tt;
  known = ping_known;
  change = Changed.rearranged (put_in 9 2 (text "epEui") (lone 7) ping tt);
}

pub added_alike : (d : List ℕ) (r q : Answered) → Meant P d r → Meant P-added d q → Alike r q
added_alike = alike 9 P P-added ping ping_added added

-- the record of ping 1: an epEui is nothing to it
abbrev pub ping_under : ℕ → Message
ping_under n = record { op_id = pos n; body = Body.Bare 9 }

abbrev pub ping_1 : Message
ping_1 = ping_under 1

pub added_read : BothRead ping ping_added ping_1 []
unfolding meaning_of row_in lead_bytes said_from command_of place_in commands lists list_in judge cells_of gravest look_in place_among body_in message_of lent_keys name_at data_of reading_as reading_of
added_read = (refl, refl)

-- it is answered with 5 and with 7 elements
pub added_told : (d : List ℕ) → lent_size ≤ length d → (r q : Answered) → Meant P d r → Meant P-added d q
    → (r ≡ answer_of 5 d (Reading.reads ping_1 [])) × (q ≡ answer_of 7 d (Reading.reads ping_1 []))
unfolding count_of
added_told d h r q M N = (answered P ping added.first ping_1 [] added_read.0 d h r M, answered P-added ping_added added.second ping_1 [] added_read.1 d h q N)

-- Second: P with its ID as D3 00 00 00 00 00 00 00 01
abbrev pub P-widened : List ℕ
P-widened = take 19 P ++ 0xD3 ∷ 0 ∷ 0 ∷ 0 ∷ 0 ∷ 0 ∷ 0 ∷ 0 ∷ 1 ∷ []

abbrev pub ping_widened : Pairs
ping_widened = pairs ((text "command", text "ping") ∷ (text "opId", leaf 0xD3 [] (0 ∷ 0 ∷ 0 ∷ 0 ∷ 0 ∷ 0 ∷ 0 ∷ 1 ∷ [])) ∷ [])

pub widened : Instance 9 P P-widened ping ping_widened
unfolding is_payload is_lawful head_of row_in lead_bytes bytes_of count_of depth_of pair_count big_at meaning_of
widened = record {
  first = ping_said;
  second = says P-widened 0x82 [] ping_widened tt;
  known = ping_known;
  change = Changed.rearranged (respelled 9 ping ping_widened refl);
}

pub widened_alike : (d : List ℕ) (r q : Answered) → Meant P d r → Meant P-widened d q → Alike r q
widened_alike = alike 9 P P-widened ping ping_widened widened

pub widened_read : BothRead ping ping_widened ping_1 []
unfolding big_at meaning_of row_in lead_bytes said_from command_of place_in commands lists list_in judge cells_of gravest look_in place_among body_in message_of lent_keys name_at data_of reading_as reading_of
widened_read = (refl, refl)

-- both have 5 elements
pub widened_told : (d : List ℕ) → lent_size ≤ length d → (r q : Answered) → Meant P d r → Meant P-widened d q
    → (r ≡ answer_of 5 d (Reading.reads ping_1 [])) × (q ≡ answer_of 5 d (Reading.reads ping_1 []))
unfolding count_of
widened_told d h r q M N = (answered P ping widened.first ping_1 [] widened_read.0 d h r M, answered P-widened ping_widened widened.second ping_1 [] widened_read.1 d h q N)

-- Third: a ulData message with all its mandatory fields and its format once, as the integer 0
abbrev pub U : List ℕ
U = 0x8C ∷ []
    ++ 0xA7 ∷ bytes "command" ++ 0xA6 ∷ bytes "ulData"
    ++ 0xA4 ∷ bytes "opId" ++ 0x02 ∷ []
    ++ 0xA5 ∷ bytes "epEui" ++ 0xCF ∷ 0x00 ∷ 0x01 ∷ 0x02 ∷ 0x03 ∷ 0x04 ∷ 0x05 ∷ 0x06 ∷ 0x07 ∷ []
    ++ 0xA6 ∷ bytes "rxTime" ++ 0xCE ∷ 0x65 ∷ 0x00 ∷ 0x00 ∷ 0x00 ∷ []
    ++ 0xA9 ∷ bytes "packetCnt" ++ 0x05 ∷ []
    ++ 0xA3 ∷ bytes "snr" ++ 0xCA ∷ 0x41 ∷ 0x30 ∷ 0x00 ∷ 0x00 ∷ []
    ++ 0xA4 ∷ bytes "rssi" ++ 0xCA ∷ 0xC2 ∷ 0xC2 ∷ 0x00 ∷ 0x00 ∷ []
    ++ 0xA8 ∷ bytes "userData" ++ 0x93 ∷ 0x0A ∷ 0x0B ∷ 0x0C ∷ []
    ++ 0xA6 ∷ bytes "format" ++ 0x00 ∷ []
    ++ 0xA6 ∷ bytes "dlOpen" ++ 0xC3 ∷ []
    ++ 0xAB ∷ bytes "responseExp" ++ 0xC2 ∷ []
    ++ 0xA5 ∷ bytes "dlAck" ++ 0xC2 ∷ []

abbrev station : Tree
station = leaf 0xCF [] (0x00 ∷ 0x01 ∷ 0x02 ∷ 0x03 ∷ 0x04 ∷ 0x05 ∷ 0x06 ∷ 0x07 ∷ [])

abbrev time : Tree
time = leaf 0xCE [] (0x65 ∷ 0x00 ∷ 0x00 ∷ 0x00 ∷ [])

-- 11 and −97
abbrev snr : Tree
snr = leaf 0xCA [] (0x41 ∷ 0x30 ∷ 0x00 ∷ 0x00 ∷ [])

abbrev rssi : Tree
rssi = leaf 0xCA [] (0xC2 ∷ 0xC2 ∷ 0x00 ∷ 0x00 ∷ [])

abbrev user : Trees
user = some (lone 0x0A) (some (lone 0x0B) (some (lone 0x0C) none))

-- its pairs but for format, with any counter and any rssi
abbrev pub uplink_telling : Tree → Tree → Pairs
uplink_telling counter rssi = pairs
    ((text "command", text "ulData") ∷
    (text "opId", lone 2) ∷
    (text "epEui", station) ∷
    (text "rxTime", time) ∷
    (text "packetCnt", counter) ∷
    (text "snr", snr) ∷
    (text "rssi", rssi) ∷
    (text "userData", array 0x93 [] user) ∷
    (text "dlOpen", lone 0xC3) ∷
    (text "responseExp", lone 0xC2) ∷
    (text "dlAck", lone 0xC2) ∷ [])

abbrev pub uplink_bare : Pairs
uplink_bare = uplink_telling (lone 5) rssi

abbrev pub uplink : Pairs
uplink = behind 8 (text "format") (lone 0) uplink_bare

-- the same in the opposite order, with the head, a key, a text, two integers and an array in longer forms, with a map under the strange key
-- `maker` that holds an `epEui`, with snr and rssi as whole numbers, and with no format
abbrev pub U-changed : List ℕ
U-changed = 0xDE ∷ 0x00 ∷ 0x0C ∷ []
    ++ 0xA5 ∷ bytes "dlAck" ++ 0xC2 ∷ []
    ++ 0xAB ∷ bytes "responseExp" ++ 0xC2 ∷ []
    ++ 0xA6 ∷ bytes "dlOpen" ++ 0xC3 ∷ []
    ++ 0xA5 ∷ bytes "maker" ++ 0x81 ∷ 0xA5 ∷ bytes "epEui" ++ 0x09 ∷ []
    ++ 0xA8 ∷ bytes "userData" ++ 0xDC ∷ 0x00 ∷ 0x03 ∷ 0x0A ∷ 0x0B ∷ 0x0C ∷ []
    ++ 0xA4 ∷ bytes "rssi" ++ 0xD0 ∷ 0x9F ∷ []
    ++ 0xD9 ∷ 0x03 ∷ bytes "snr" ++ 0x0B ∷ []
    ++ 0xA9 ∷ bytes "packetCnt" ++ 0xCD ∷ 0x00 ∷ 0x05 ∷ []
    ++ 0xA6 ∷ bytes "rxTime" ++ 0xCE ∷ 0x65 ∷ 0x00 ∷ 0x00 ∷ 0x00 ∷ []
    ++ 0xA5 ∷ bytes "epEui" ++ 0xCF ∷ 0x00 ∷ 0x01 ∷ 0x02 ∷ 0x03 ∷ 0x04 ∷ 0x05 ∷ 0x06 ∷ 0x07 ∷ []
    ++ 0xA4 ∷ bytes "opId" ++ 0xD1 ∷ 0x00 ∷ 0x02 ∷ []
    ++ 0xA7 ∷ bytes "command" ++ 0xD9 ∷ 0x06 ∷ bytes "ulData"

abbrev maker : Tree
maker = map 0x81 [] (pairs ((text "epEui", lone 9) ∷ []))

-- the pairs in front of the signal figures, and behind them
abbrev front : Pairs
front = pairs
    ((text "dlAck", lone 0xC2) ∷
    (text "responseExp", lone 0xC2) ∷
    (text "dlOpen", lone 0xC3) ∷
    (text "maker", maker) ∷
    (text "userData", array 0xDC (0x00 ∷ 0x03 ∷ []) user) ∷ [])

abbrev rear : Pairs
rear = pairs
    ((text "packetCnt", leaf 0xCD [] (0x00 ∷ 0x05 ∷ [])) ∷
    (text "rxTime", time) ∷
    (text "epEui", station) ∷
    (text "opId", leaf 0xD1 [] (0x00 ∷ 0x02 ∷ [])) ∷
    (text "command", wide_text "ulData") ∷ [])

abbrev uplink_turned : Tree → Tree → Pairs
uplink_turned rssi snr = before front (pair (text "rssi") rssi (pair (wide_text "snr") snr rear))

-- −97 and 11 as whole numbers
abbrev pub whole_rssi : Tree
whole_rssi = leaf 0xD0 [] (0x9F ∷ [])

abbrev pub uplink_changed : Pairs
uplink_changed = uplink_turned whole_rssi (lone 0x0B)

-- the floats are exactly these numbers
rssi_stands : StandsFor Kind.reals (meaning_of whole_rssi) (meaning_of rssi)
unfolding meaning_of row_in lead_bytes big_at of_bits
rssi_stands = StandsFor.real (SameReal.float32 {z = negsuc 96} {n = 0xC2C2_0000} (lit≤ tt, (refl, refl)))

snr_stands : StandsFor Kind.reals (meaning_of (lone 0x0B)) (meaning_of snr)
unfolding meaning_of row_in lead_bytes big_at of_bits
snr_stands = StandsFor.real (SameReal.float32 {z = pos 11} {n = 0x4130_0000} (lit≤ tt, (refl, refl)))

-- the signal figures, from floats to whole numbers
figures_change : Rearranged 7 (uplink_turned rssi snr) uplink_changed
unfolding row_in lead_bytes meaning_of lists list_in
figures_change =
    inside 7 front (Rearranged.next
    (Rearranged.back (Rearranged.counted (of_kind Kind.reals (fields_of 7) (bytes "rssi") tt) rssi_stands))
    (Rearranged.behind (Rearranged.back (Rearranged.counted (of_kind Kind.reals (fields_of 7) (bytes "snr") tt) snr_stands))))

-- format to the front and out, the others turned round, `maker` put in behind three, the widths, and the signal figures
uplink_change : Changed 7 uplink uplink_changed
unfolding row_in lead_bytes big_at meaning_of said_from lists list_in
uplink_change =
    Changed.next (Changed.rearranged (Rearranged.back (moved 7 8 (text "format") (lone 0) uplink_bare)))
    (Changed.next (Changed.left_out {k = text "format"} {v = lone 0} {ps = uplink_bare} Default.format refl)
    (Changed.rearranged
    (Rearranged.next (turn 7 uplink_bare)
    (Rearranged.next (put_in 7 3 (text "maker") maker (turned uplink_bare end) tt)
    (Rearranged.next (respelled 7 (behind 3 (text "maker") maker (turned uplink_bare end)) (uplink_turned rssi snr) refl)
    figures_change)))))

pub changed : Instance 7 U U-changed uplink uplink_changed
unfolding is_payload is_lawful head_of row_in lead_bytes bytes_of count_of depth_of part_count pair_count big_at meaning_of said_from command_of place_in commands
changed = record {
  first = says U 0x8C [] uplink tt;
  second = says U-changed 0xDE (0x00 ∷ 0x0C ∷ []) uplink_changed tt;
  known = record { name = bytes "ulData"; said = refl; is = refl; ours = lit< tt };
  change = uplink_change;
}

pub changed_alike : (d : List ℕ) (r q : Answered) → Meant U d r → Meant U-changed d q → Alike r q
changed_alike = alike 7 U U-changed uplink uplink_changed changed

-- the record, by its rssi and its format
abbrev pub uplink_heard : Float → ℕ → Message
uplink_heard rssi format = record {
  op_id = pos 2;
  body = Body.UlData (record {
    packet = record {
      ep_eui = 0x0001_0203_0405_0607;
      rx_time = 0x6500_0000;
      rx_duration = record { here = false; value = 0 };
      packet_cnt = 5;
      signal = record { snr = fin false 11 (pos 0); rssi = rssi; eq_snr = record { here = false; value = zero64 } };
      profile_len = 0;
      profile = record { high = 0; low = 0 };
    };
    user_len = 3;
    format = format;
    dl_open = true;
    response_exp = false;
    dl_ack = false;
  });
}

abbrev pub uplink_with : ℕ → Message
uplink_with format = uplink_heard (fin true 97 (pos 0)) format

-- the nested epEui says nothing, and the format is 0 whether given or not
abbrev pub uplink_2 : Message
uplink_2 = uplink_with 0

abbrev pub user_data : List ℕ
user_data = 0x0A ∷ 0x0B ∷ 0x0C ∷ []

pub changed_read : BothRead uplink uplink_changed uplink_2 user_data
unfolding big_at of_bits of_int meaning_of row_in lead_bytes said_from command_of place_in commands lists list_in naturals_in judge cells_of gravest look_in place_among body_in message_of lent_keys name_at data_of reading_as reading_of
changed_read = (refl, refl)

-- 28 and 30 elements
pub changed_told : (d : List ℕ) → lent_size ≤ length d → (r q : Answered) → Meant U d r → Meant U-changed d q
    → (r ≡ answer_of 28 d (Reading.reads uplink_2 user_data)) × (q ≡ answer_of 30 d (Reading.reads uplink_2 user_data))
unfolding count_of
changed_told d h r q M N = (answered U uplink changed.first uplink_2 user_data changed_read.0 d h r M, answered U-changed uplink_changed changed.second uplink_2 user_data changed_read.1 d h q N)
