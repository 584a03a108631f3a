-- The theorem at work on a position: a con with its geoLocation as a float 64, a float 32 and a whole number, and as two whole numbers and a float 32.
-- By computation. Assumes nothing.
use mathlib.Core.Path.{refl}
use mathlib.Core.Bool.{true, false}
use mathlib.Core.List.{List, [], ◌∷◌, ◌++◌}
use Prim.Native.Nat.{ℕ, zero, suc}
use lib.{Dec.lit<, Dec.lit≤, IntN.pos, IntN.negsuc, ListN.replicate}
use lib.Ieee.{fin, of_bits, of_int}
use Rattle.octets.specs.Number.{big_at}
use Rattle.element.specs.{Lead.lead_bytes, Lead.row_in, Lead.head_of, Tree.Tree.leaf, Tree.Tree.array, Tree.Trees.none, Tree.Trees.some}
use Rattle.element.specs.Meaning.{meaning_of}
use Rattle.element.specs.Tree.{Tree, Trees, Pairs, bytes_of, count_of, depth_of, part_count, pair_count}
use Rattle.names.specs.Names.{bytes, commands, place_in, name_at, command_of}
use Rattle.field.specs.{Kind.Kind, Judge.naturals_in, Judge.reals_in, Judge.judge, Version.cut_at_dots, Version.digits_from, Version.version_of, Cell.located}
use Rattle.message.specs.Fields.{lists, list_in, fields_of}
use Rattle.message.specs.Reading.{said_from, cells_of, gravest, look_in, place_among}
use Rattle.record.specs.declared.{Body.Body, Message.Message}
use Rattle.record.specs.Record.{body_in, message_of, lent_keys, data_of}
use Rattle.record.specs.{Reading.reading_as, Reading.reading_of}
use Rattle.record.specs.Meant.{Answered, Meant}
use Rattle.promises.specs.Steady.{SameReal, SameReals, StandsFor, Rearranged, Changed, Alike}
use Rattle.promises.proofs.{Tested.is_lawful, Tested.is_payload, Tested.says, Tested.of_kind, Moves.before, Moves.inside}
use Rattle.promises.proofs.Instances.{Instance, BothRead, alike, text, lone, pairs}

abbrev con_at : List ℕ → List ℕ
con_at three = 0x87 ∷ []
    ++ 0xA7 ∷ bytes "command" ++ 0xA3 ∷ bytes "con"
    ++ 0xA4 ∷ bytes "opId" ++ 0x00 ∷ []
    ++ 0xA7 ∷ bytes "version" ++ 0xA5 ∷ bytes "1.0.0"
    ++ 0xA5 ∷ bytes "bsEui" ++ 0x05 ∷ []
    ++ 0xA4 ∷ bytes "bidi" ++ 0xC2 ∷ []
    ++ 0xAB ∷ bytes "geoLocation" ++ 0x93 ∷ three
    ++ 0xA8 ∷ bytes "snBsUuid" ++ 0xDC ∷ 0x00 ∷ 0x10 ∷ replicate 16 0x2A

abbrev pub C : List ℕ
C = con_at (0xCB ∷ 0x40 ∷ 0x48 ∷ 0 ∷ 0 ∷ 0 ∷ 0 ∷ 0 ∷ 0 ∷ 0xCA ∷ 0x41 ∷ 0x30 ∷ 0 ∷ 0 ∷ 0xFE ∷ [])

abbrev pub C-counted : List ℕ
C-counted = con_at (0x30 ∷ 0xD1 ∷ 0 ∷ 0x0B ∷ 0xCA ∷ 0xC0 ∷ 0 ∷ 0 ∷ 0 ∷ [])

-- sixteen equal bytes
abbrev repeated : ℕ → ℕ → Trees
repeated zero b = none
repeated (suc n) b = some (lone b) (repeated n b)

abbrev head_of_con : Pairs
head_of_con = pairs
    ((text "command", text "con") ∷
    (text "opId", lone 0) ∷
    (text "version", text "1.0.0") ∷
    (text "bsEui", lone 5) ∷
    (text "bidi", lone 0xC2) ∷ [])

abbrev located_con : Tree → Pairs
located_con position = pairs ((text "geoLocation", position) ∷ (text "snBsUuid", array 0xDC (0x00 ∷ 0x10 ∷ []) (repeated 16 0x2A)) ∷ [])

abbrev three_of : Tree → Tree → Tree → Tree
three_of x y z = array 0x93 [] (some x (some y (some z none)))

-- 48, 11 and −2: as floats, and as whole numbers
abbrev whole_11 : Tree
whole_11 = leaf 0xD1 [] (0 ∷ 0x0B ∷ [])

abbrev float_48 : Tree
float_48 = leaf 0xCB [] (0x40 ∷ 0x48 ∷ 0 ∷ 0 ∷ 0 ∷ 0 ∷ 0 ∷ 0 ∷ [])

abbrev float_11 : Tree
float_11 = leaf 0xCA [] (0x41 ∷ 0x30 ∷ 0 ∷ 0 ∷ [])

abbrev float_minus_2 : Tree
float_minus_2 = leaf 0xCA [] (0xC0 ∷ 0 ∷ 0 ∷ 0 ∷ [])

abbrev floats : Tree
floats = three_of float_48 float_11 (lone 0xFE)

abbrev wholes : Tree
wholes = three_of (lone 0x30) whole_11 (lone 0xFE)

abbrev mixed : Tree
mixed = three_of (lone 0x30) whole_11 float_minus_2

abbrev pub con_floats : Pairs
con_floats = before head_of_con (located_con floats)

abbrev pub con_counted : Pairs
con_counted = before head_of_con (located_con mixed)

floats_stand : StandsFor Kind.positions (meaning_of wholes) (meaning_of floats)
unfolding meaning_of row_in lead_bytes big_at of_bits
floats_stand =
    StandsFor.position (SameReals.more (SameReal.float64 {z = pos 48} {n = 0x4048_0000_0000_0000} (lit≤ tt, (refl, refl)))
    (SameReals.more (SameReal.float32 {z = pos 11} {n = 0x4130_0000} (lit≤ tt, (refl, refl))) (SameReals.more SameReal.same SameReals.no_more)))

mixed_stands : StandsFor Kind.positions (meaning_of wholes) (meaning_of mixed)
unfolding meaning_of row_in lead_bytes big_at of_bits
mixed_stands =
    StandsFor.position (SameReals.more SameReal.same
    (SameReals.more SameReal.same (SameReals.more (SameReal.float32 {z = negsuc 1} {n = 0xC000_0000} (lit≤ tt, (refl, refl))) SameReals.no_more)))

-- through whole numbers
con_change : Changed 0 con_floats con_counted
unfolding row_in lead_bytes meaning_of lists list_in
con_change =
    let o = of_kind Kind.positions (fields_of 0) (bytes "geoLocation") tt in
    let to-wholes : Rearranged 0 (located_con floats) (located_con wholes) = Rearranged.back (Rearranged.counted o floats_stand) in
    Changed.rearranged (inside 0 head_of_con (Rearranged.next to-wholes (Rearranged.counted o mixed_stands)))

pub counted : Instance 0 C C-counted con_floats con_counted
unfolding is_payload is_lawful head_of row_in lead_bytes bytes_of count_of depth_of part_count pair_count big_at meaning_of said_from command_of place_in commands
counted = record {
  first = says C 0x87 [] con_floats tt;
  second = says C-counted 0x87 [] con_counted tt;
  known = record { name = bytes "con"; said = refl; is = refl; ours = lit< tt };
  change = con_change;
}

pub counted_alike : (d : List ℕ) (r q : Answered) → Meant C d r → Meant C-counted d q → Alike r q
counted_alike = alike 0 C C-counted con_floats con_counted counted

-- the position is kept as three float 64s
abbrev pub con_there : Message
con_there = record {
  op_id = pos 0;
  body = Body.Con (record {
    version = record { here = true; value = record { major = 1; minor = 0; patch = 0 } };
    bs_eui = 5;
    bidi = false;
    geo_location = record { here = true; value = located (fin false 3 (pos 4)) (fin false 11 (pos 0)) (fin true 1 (pos 1)) };
    sn_bs_uuid = record { high = 0x2A2A_2A2A_2A2A_2A2A; low = 0x2A2A_2A2A_2A2A_2A2A };
    sn_bs_op_id = record { here = false; value = pos 0 };
    sn_sc_op_id = record { here = false; value = pos 0 };
  });
}

pub counted_read : BothRead con_floats con_counted con_there []
unfolding big_at of_bits of_int meaning_of row_in lead_bytes said_from command_of place_in commands lists list_in naturals_in reals_in cut_at_dots digits_from version_of judge cells_of gravest look_in place_among body_in message_of lent_keys name_at data_of reading_as reading_of
counted_read = (refl, refl)
