-- A command's fields by places in the bytes: the gravest fault, the record, and the room that userData's bytes are read into.
use Rattle.std.specs.Prelude.{ℕ, max, true, false, Option, Some, None, is_none}
use mathlib.Core.{Bool.Bool, Bool.◌&&◌, Bool.not, List.List, List.[]}
use lib.{Dec.eqb, Dec.leb, ListN.get_or, ListN.drop}
use Rattle.octets.specs.Choice.{either}
use Rattle.names.specs.{Names.bytes, Names.downlink, Code.Slots.slot_of}
use Rattle.field.specs.{Cell.Cell, Code.Into.read_into}
use Rattle.message.specs.{Fields.Field, Fields.received, Fields.downlink_fields, Fields.fields_of, Code.Cells.cells_at}
use Rattle.message.specs.declared.Maybe.{Maybe}
use Rattle.message.specs.Record.{mark_in, maybe_of}
use Rattle.field.specs.declared.Flaw.{Flaw, TheVariants.Invalid, TheVariants.Missing, TheVariants.Twice}
use Rattle.message.specs.Reading.{graded, gravest, look_in, crossed}
use Rattle.record.specs.Record.{packet_of, body_of, message_of}
use Rattle.record.specs.declared.{Body.Body, Packet.Packet}
use Rattle.bodies.specs.declared.{Held.Held, Parts.Parts, Marks.Marks, Graded.Graded}

-- what is answered, and the room afterwards
pub record Read : Type 0 where
  pub graded : Graded
  pub user : List ℕ

-- only ulData has bytes for it
abbrev pub user_after : List ℕ → List ℕ → ℕ → List ℕ → List ℕ
user_after s at c user = either (eqb c 7) (λ _. read_into s (get_or at (slot_of (bytes "userData")) 0) user) (λ _. user)

module _ (s at : List ℕ) where
  abbrev pub look_for : ℕ → List ℕ → Cell
  look_for c = look_in Cell.missing (fields_of c) (cells_at (fields_of c) s at)

  unfoldable pub read_of : ℕ → List ℕ → Read
  read_of c user = record {
    graded = record {
      worst = max (gravest 0 0 (fields_of c) (cells_at (fields_of c) s at)) (crossed (fields_of c) (look_for c));
      message = message_of c (look_for c);
    };
    user = user_after s at c user;
  }

  -- for the private readers: the fields behind opId, w the gravest fault before them
  abbrev pub gravest_from : ℕ → ℕ → ℕ
  gravest_from c w = gravest w 2 (drop 2 (fields_of c)) (drop 2 (cells_at (fields_of c) s at))

  unfoldable pub plain_of : ℕ → ℕ → Held Body
  plain_of c w = record { worst = gravest_from c w; value = body_of c (look_for c) }

  unfoldable pub packet_as : ℕ → Held Packet
  packet_as w = record { worst = gravest w 2 (received []) (cells_at (received []) s at); value = packet_of (look_for 7) }

  -- dlDataQue's optional marks, and the whole with its rule
  abbrev pub flag_fields : List Field
  flag_fields = drop 9 downlink_fields

  unfoldable pub flags_as : ℕ → Held Marks
  flags_as w = record {
    worst = gravest w 9 flag_fields (cells_at flag_fields s at);
    value = record {
      response_exp = maybe_of mark_in (look_for downlink (bytes "responseExp"));
      response_prio = maybe_of mark_in (look_for downlink (bytes "responsePrio"));
      dl_wind_req = maybe_of mark_in (look_for downlink (bytes "dlWindReq"));
      exp_only = maybe_of mark_in (look_for downlink (bytes "expOnly"));
    };
  }

  unfoldable pub downlink_of : ℕ → Held Body
  downlink_of w = record { worst = max (gravest_from downlink w) (crossed (fields_of downlink) (look_for downlink)); value = body_of downlink (look_for downlink) }

-- for the private readers: with the room
pub record Bodying : Type 0 where
  pub bodied : Held Body
  pub user : List ℕ

abbrev pub bodying : Held Body → List ℕ → Bodying
bodying b user = record { bodied = b; user = user }

-- responseExp without dlOpen
unfoldable pub crossed_by : Bool → Bool → Bool → ℕ
crossed_by expected known opened = either (expected && (known && not opened)) (λ _. graded 1 13) (λ _. 0)

-- cntDepend against its counts
unfoldable pub agree_by : Bool → Parts → Parts → Bool
agree_by depends cs es =
    either depends (λ _. is_none cs.flaw && (eqb cs.count es.count && leb 1 es.count)) (λ _. not (is_none cs.flaw) && eqb es.count 1)

-- a field that is there, or absent
abbrev pub is_valid_by : Option Flaw → Bool
is_valid_by None = true
is_valid_by (Some Invalid) = false
is_valid_by (Some Missing) = true
is_valid_by (Some Twice) = false

unfoldable pub miscounted_by : Maybe Bool → Parts → Parts → ℕ
miscounted_by depends cs es =
    either (depends.here && (is_valid_by cs.flaw && (is_none es.flaw && not (agree_by depends.value cs es)))) (λ _. graded 1 5) (λ _. 0)

unfoldable pub bodied_of : List ℕ → List ℕ → ℕ → List ℕ → ℕ → Bodying
bodied_of s at c user w =
    bodying (record { worst = max (gravest_from s at c w) (crossed (fields_of c) (look_for s at c)); value = (plain_of s at c w).value }) (user_after s at c user)
