-- Document 02, Q-3: "Each step gives the state of those live calls." A day at a live host, and its frames played again.
use mathlib.Core.{Path.◌≡◌, Bool.Bool, Bool.true, Bool.false, Bool.◌&&◌, Bool.not}
use Rattle.std.specs.Prelude.{ℕ, ◌*◌, ◌≤◌, ◌<◌, ◌^◌, List, [], ◌∷◌, Option, Some, None, is_ok}
use Rattle.std.proofs.Math.Option as maybe
use lib.{Dec.eqb, IntN.pos, ListN.length}
use Rattle.octets.specs.{Choice.either, Bytes.IsBytes}
use Rattle.names.specs.Names.{bytes, command_of}
use Rattle.record.specs.declared.{Con.Con, Message.Message}
use Rattle.record.specs.{Record.command_in, Meant.Answered, Meant.message_told}
use Rattle.session.specs.{Arrive.is_below, Arrive.lowest_of, Arrive.con_in, Image.session_size, Image.session_at, Image.is_session}
use Rattle.steps.specs.Called.{lost_session, begin_on}
use Rattle.play.specs.declared.Credited.{Credited}
use Rattle.play.specs.Play.{Lends, replaying}
use Rattle.play.specs.Centre.{stations, Centre, centre, session_of, with_session, PlaysFrame}

-- a whole frame arrives from a station, with what the host lends for it; a station's connection is lost; or the centre starts an operation with a message, its data
-- and a room
pub data Event : Type 0 where
  hears : ℕ → List ℕ → Lends → Event
  loses : ℕ → Event
  begins : ℕ → Message → List ℕ → List ℕ → Event

-- what a host must lend: a UUID of 16 bytes and a sign of 4, any scEui, and a room for the longest frame
pub record Lawful (h : Lends) : Type 0 where
  pub sc_eui : h.sc_eui < 2 ^ 64
  pub uuid : length h.uuid ≡ 16
  pub octets : IsBytes h.uuid
  pub sign : length h.sign ≡ 4
  pub room : 1909 ≤ length h.room

-- a reading that is credited, and the station that was the first to send it
pub record Bill : Type 0 where
  pub station : ℕ
  pub eui : ℕ
  pub counter : ℕ

abbrev pub billed : ℕ → Option Credited → List Bill → List Bill
billed k (Some r) bs = record { station = k; eui = r.eui; counter = r.counter } ∷ bs
billed k None bs = bs

-- whether a payload is read, and whether it is a con
abbrev pub is_read : Answered → Bool
is_read a = is_ok a.told

abbrev pub is_con : Answered → Bool
is_con a = is_read a && eqb (command_in (message_told a.told).body) (command_of (bytes "con"))

-- whether a payload is a con that names an operation of the centre's: an snScOpId below 0. It resumes only where the centre started that one, and a replay starts none
abbrev pub names_own : Con → Bool
names_own x = x.sn_sc_op_id.here && is_below x.sn_sc_op_id.value (pos 0)

abbrev pub con_names : maybe.Option Con → Bool
con_names maybe.none = false
con_names (maybe.some x) = names_own x

abbrev pub is_naming : Answered → Bool
is_naming a = is_read a && con_names (con_in (message_told a.told).body)

-- whether the centre started an operation in the session in these bytes
abbrev pub has_started : List ℕ → Bool
has_started d = is_below (lowest_of (session_at d)) (pos 0)

-- which stations' connections are lost: another answer for station k
abbrev pub for : (ℕ → Bool) → ℕ → Bool → ℕ → Bool
for down k b j = either (eqb j k) (λ _. b) (λ _. down j)

-- the host's calls in order, and what it credits. A con is taken after a lost connection; a connection may be lost at other times too, if the station's next message that
-- is read is a con. The centre may start operations at any time; a con that names one comes to no session in which it did
pub data Lives : (ℕ → Bool) → Centre → List Event → List Bill → Centre → Type 0 where
  done : (down : ℕ → Bool) (x : Centre) → Lives down x [] [] x
  hears : (down : ℕ → Bool) (x y z : Centre) (k : ℕ) (frame : List ℕ) (h : Lends) (es : List Event) (bs : List Bill) (r : Option Credited) → k < stations → Lawful h
      → (p : PlaysFrame h x k frame y r) → (down k ≡ true → is_read p.plays.answer ≡ true → is_con p.plays.answer ≡ true)
      → (is_naming p.plays.answer ≡ true → has_started (session_of x.sessions k) ≡ false)
      → Lives (for down k (down k && not (is_con p.plays.answer))) y es bs z → Lives down x (Event.hears k frame h ∷ es) (billed k r bs) z
  loses : (down : ℕ → Bool) (x z : Centre) (k : ℕ) (es : List Event) (bs : List Bill) → k < stations
      → Lives (for down k true) (centre (with_session x.sessions k (lost_session (session_of x.sessions k))) x.table) es bs z → Lives down x (Event.loses k ∷ es) bs z
  begins : (down : ℕ → Bool) (x z : Centre) (k : ℕ) (m : Message) (lent room : List ℕ) (es : List Event) (bs : List Bill) → k < stations
      → Lives down (centre (with_session x.sessions k (begin_on (session_of x.sessions k) m lent room).session) x.table) es bs z
      → Lives down x (Event.begins k m lent room ∷ es) bs z

-- what the host recorded: each frame with its station
pub record Frame : Type 0 where
  pub station : ℕ
  pub frame : List ℕ

unfoldable pub heard : List Event → List Frame
heard [] = []
heard (Event.hears k frame h ∷ es) = record { station = k; frame = frame } ∷ heard es
heard (Event.loses k ∷ es) = heard es
heard (Event.begins k m lent room ∷ es) = heard es

-- these frames played again, and the readings that are new
pub data PlaysAll : Centre → List Frame → List Bill → Centre → Type 0 where
  done : (x : Centre) → PlaysAll x [] [] x
  plays : (x y z : Centre) (f : Frame) (l : List Frame) (bs : List Bill) (r : Option Credited) → PlaysFrame replaying x f.station f.frame y r → PlaysAll y l bs z
      → PlaysAll x (f ∷ l) (billed f.station r bs) z

-- where a day may begin: the bytes of 64 sessions, whatever their states, in which the centre started nothing
pub record Fresh (x : Centre) : Type 0 where
  pub long : length x.sessions ≡ session_size * stations
  pub octets : IsBytes x.sessions
  pub sessions : (k : ℕ) → k < stations → is_session (session_of x.sessions k) ≡ true
  pub idle : (k : ℕ) → k < stations → has_started (session_of x.sessions k) ≡ false
