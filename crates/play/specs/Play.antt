-- Document 02, Q-3: a frame's payload played through its station's session and the meter table. "Each step gives the state of those live calls."
use mathlib.Core.{Path.◌≡◌, List.List}
use Rattle.std.specs.Prelude.{ℕ, Option, Some, None, Result, Ok, Err}
use lib.{Dec.eqb, ListN.replicate}
use Rattle.octets.specs.Choice.{either}
use Rattle.names.specs.Names.{bytes, command_of}
use Rattle.refusal.specs.declared.Broken.{Broken}
use Rattle.record.specs.declared.{Body.Body, Message.Message, Counted.Counted}
use Rattle.record.specs.{Record.command_in, Meant.Answered, Meant.lent_size, Meant.Meant}
use Rattle.meters.specs.declared.Kind.{Kind, TheVariants.New, TheVariants.Copy}
use Rattle.meters.specs.Answers.{Uplinked}
use Rattle.meters.specs.Columns.{Columns, uplink_on}
use Rattle.steps.specs.Called.{Called, step_refusal, arrive_on, lost_session}
use Rattle.play.specs.declared.Credited.{Credited}

-- a station's session and the table afterwards, and the reading that was new there
pub record Played : Type 0 where
  pub session : List ℕ
  pub table : Columns
  pub reading : Option Credited

abbrev pub played : List ℕ → Columns → Option Credited → Played
played d c r = record { session = d; table = c; reading = r }

abbrev pub no_reading : Option Credited
no_reading = None

abbrev pub new_reading : ℕ → ℕ → Option Credited
new_reading eui counter = Some (record { eui = eui; counter = counter })

-- "A con is played as after a lost connection"
unfoldable pub before_arrival : Body → List ℕ → List ℕ
before_arrival b d = either (eqb (command_in b) (command_of (bytes "con"))) (λ _. lost_session d) (λ _. d)

-- what a host lends with each message: scEui, a UUID and a sign, and a room for the reply
pub record Lends : Type 0 where
  pub sc_eui : ℕ
  pub uuid : List ℕ
  pub sign : List ℕ
  pub room : List ℕ

unfoldable pub arrival : Lends → List ℕ → Message → List ℕ → Called
arrival h d m lent = arrive_on (before_arrival m.body d) m lent h.sc_eui h.uuid h.sign h.room

-- "with UUID, scEui and signs zero"; the reply is thrown away, and its room is long enough for each
abbrev pub zeros : ℕ → List ℕ
zeros n = replicate n 0

abbrev pub replaying : Lends
replaying = record { sc_eui = 0; uuid = zeros 16; sign = zeros 4; room = zeros 1909 }

-- "a reading new there"
abbrev pub reading_as : Kind → ℕ → ℕ → Option Credited
reading_as New eui counter = new_reading eui counter
reading_as Copy eui counter = no_reading

unfoldable pub reading_of : Uplinked → ℕ → ℕ → Option Credited
reading_of (Ok c) eui counter = reading_as c.kind eui counter
reading_of (Err r) eui counter = no_reading

unfoldable pub credited : List ℕ → Columns → ℕ → ℕ → ℕ → Played
credited d c station eui counter = played d (uplink_on c eui counter station).columns (reading_of (uplink_on c eui counter station).answer eui counter)

-- what an accepted message is to the table: "Only a ulData the session accepts goes to the table"
unfoldable pub to_table : List ℕ → Columns → ℕ → Body → Played
to_table d c station (Body.UlData x) = credited d c station x.packet.ep_eui x.packet.packet_cnt
to_table d c station (Body.Con x) = played d c no_reading
to_table d c station (Body.ConRsp x) = played d c no_reading
to_table d c station (Body.StatusRsp x) = played d c no_reading
to_table d c station (Body.Det x) = played d c no_reading
to_table d c station (Body.DetRsp sign) = played d c no_reading
to_table d c station (Body.AttPrp x) = played d c no_reading
to_table d c station (Body.DetPrp eui) = played d c no_reading
to_table d c station (Body.DlDataQue x) = played d c no_reading
to_table d c station (Body.Bare n) = played d c no_reading

-- a message that the session refuses has no part in the table
unfoldable pub after_arrival : Columns → ℕ → Body → Called → Played
after_arrival c station b a = either (eqb (step_refusal a.answer) 0) (λ _. to_table a.session c station b) (λ _. played a.session c no_reading)

-- the live calls with a payload: a payload that is refused does nothing
abbrev pub play_told : Lends → List ℕ → Columns → ℕ → List ℕ → Result Counted Broken → Played
play_told h d c station lent (Ok x) = after_arrival c station x.message.body (arrival h d x.message lent)
play_told h d c station lent (Err b) = played d c no_reading

unfoldable pub play_of : Lends → List ℕ → Columns → ℕ → Answered → Played
play_of h d c station a = play_told h d c station a.lent a.told

-- bytes are lent for the message's data, and thrown away
abbrev pub scratch : List ℕ
scratch = zeros lent_size

-- what the calls with a payload leave: by what it means
pub record Plays (h : Lends) (payload d : List ℕ) (c : Columns) (station : ℕ) (r : Played) : Type 0 where
  pub answer : Answered
  pub meant : Meant payload scratch answer
  pub same : r ≡ play_of h d c station answer
