-- Document 02, Q-3: a turn over a trace: its first number, then record by record, each played through sessions and table.
use mathlib.Core.{Path.◌≡◌, Bool.Bool, List.List, List.[]}
use Rattle.std.specs.Prelude.{ℕ, ◌+◌, length, Option, Result, Ok, Err}
use Rattle.refusal.specs.declared.Refusal.{Refusal}
use Rattle.groups.specs.declared.Number.{Number}
use Rattle.trace.specs.declared.Entry.{Entry}
use Rattle.trace.specs.Record.{entry_of, frame_of, start_of}
use Rattle.trace.specs.Trace.{end_of}
use Rattle.play.specs.declared.Credited.{Credited}
use Rattle.play.specs.Play.{replaying}
use Rattle.play.specs.Centre.{Centre, PlaysFrame}
use Rattle.lines.specs.{Turn.Shows, declared.Took.Took}
use Rattle.turns.specs.Turns.{Turn}
use Rattle.day.specs.{Lines.line_of, Turn.passes, Turn.refuses, Turn.refuses_between, Turn.leaving, Turn.shown_by}

-- before the first number, and behind it with the sum of the gaps so far
pub data Phase : Type 0 where
  starting : Centre → Phase
  playing : ℕ → Centre → Phase

-- the sessions and the table
abbrev pub centre_in : Phase → Centre
centre_in (Phase.starting x) = x
centre_in (Phase.playing sum x) = x

-- a trace is begun, or it is refused
abbrev pub started_by : Bool → Centre → Result Number Refusal → Turn Phase
started_by last x (Ok n) = leaving (Phase.playing 0 x) (passes n.next [])
started_by last x (Err k) = leaving (Phase.starting x) (refuses last k)

unfoldable pub start_turn : Bool → Centre → List ℕ → Turn Phase
start_turn last x s = started_by last x (start_of s)

-- a record that is played, and the reading that was new
unfoldable pub record_turn : ℕ → Entry → Centre → Option Credited → Turn Phase
record_turn sum e y r = leaving (Phase.playing (sum + e.gap) y) (passes (end_of e) (line_of e.station r))

-- a fault, or the end
unfoldable pub fault_turn : Bool → ℕ → List ℕ → Refusal → Centre → Turn Phase
fault_turn last sum s k x = leaving (Phase.playing sum x) (refuses_between last (length s) k)

pub data TraceTurn : Bool → Phase → List ℕ → Turn Phase → Type 0 where
  starts : (last : Bool) (x : Centre) (s : List ℕ) → TraceTurn last (Phase.starting x) s (start_turn last x s)
  plays : (last : Bool) (sum : ℕ) (x y : Centre) (s : List ℕ) (e : Entry) (r : Option Credited) → entry_of sum s ≡ Ok e
      → PlaysFrame replaying x e.station (frame_of s e) y r → TraceTurn last (Phase.playing sum x) s (record_turn sum e y r)
  faults : (last : Bool) (sum : ℕ) (x : Centre) (s : List ℕ) (k : Refusal) → entry_of sum s ≡ Err k → TraceTurn last (Phase.playing sum x) s (fault_turn last sum s k x)

-- what a turn behind the first number answers and leaves: the sum of gaps, sessions and table
pub record Turned (before : Centre) (last : Bool) (sum : ℕ) (s : List ℕ) (room : List ℕ) (after : Centre) (sumAfter : ℕ) (roomAfter : List ℕ) (r : Took) : Type 0 where
  pub turn : Turn Phase
  pub told : TraceTurn last (Phase.playing sum before) s turn
  pub state : turn.state ≡ Phase.playing sumAfter after
  pub shows : Shows (shown_by turn) room roomAfter r
