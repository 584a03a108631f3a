-- Document 02, Q-3: all that is printed of an enrolment file and a trace.
use mathlib.Core.{Path.◌≡◌, List.List, List.[], List.◌++◌}
use Rattle.std.specs.Prelude.{ℕ, ◌+◌, ◌*◌, ◌≤◌, ◌<◌, length, drop, replicate, Option, Ok, Err}
use Rattle.refusal.specs.declared.Refusal.{Refusal, TheVariants.InputEnds}
use Rattle.refusal.specs.Number.{number_of}
use Rattle.groups.specs.declared.Number.{Number}
use Rattle.session.specs.Image.{session_size}
use Rattle.meters.specs.Columns.{Columns}
use Rattle.trace.specs.declared.Entry.{Entry}
use Rattle.trace.specs.{Record.entry_of, Record.frame_of, Record.start_of, Trace.end_of}
use Rattle.play.specs.declared.Credited.{Credited}
use Rattle.play.specs.Play.{replaying}
use Rattle.play.specs.Centre.{stations, Centre, centre, PlaysFrame}
use Rattle.day.specs.{Lines.line_of, Lines.refused_line, Enrolments.enrolment_size, Enrolments.enrolment_of, Enrolments.empty_table}

-- the enrolments, entry by entry: all are taken and nothing is printed, or one is refused
pub data Enrols : Columns → List ℕ → List ℕ → Columns → Type 0 where
  finished : (c : Columns) → Enrols c [] [] c
  cut : (c : Columns) (s : List ℕ) → (s ≡ [] → ⊥) → length s < enrolment_size → Enrols c s (refused_line (number_of InputEnds)) c
  enrolled : (c e : Columns) (s out : List ℕ) (i : ℕ) → enrolment_size ≤ length s → (enrolment_of s c).answer ≡ Ok i
      → Enrols (enrolment_of s c).columns (drop enrolment_size s) out e → Enrols c s out e
  refused : (c : Columns) (s : List ℕ) (r : Refusal) → enrolment_size ≤ length s → (enrolment_of s c).answer ≡ Err r
      → Enrols c s (refused_line (number_of r)) (enrolment_of s c).columns

-- the records behind gaps of this sum: each is played in turn, up to the first fault
pub data Replays : ℕ → Centre → List ℕ → List ℕ → Centre → Type 0 where
  finished : (sum : ℕ) (x : Centre) → Replays sum x [] [] x
  plays : (sum : ℕ) (x y z : Centre) (s out : List ℕ) (e : Entry) (r : Option Credited) → entry_of sum s ≡ Ok e → PlaysFrame replaying x e.station (frame_of s e) y r
      → Replays (sum + e.gap) y (drop (end_of e) s) out z → Replays sum x s (line_of e.station r ++ out) z
  faults : (sum : ℕ) (x : Centre) (s : List ℕ) (k : Refusal) → (s ≡ [] → ⊥) → entry_of sum s ≡ Err k → Replays sum x s (refused_line (number_of k)) x

-- a whole trace
pub data ReplaysTrace : Centre → List ℕ → List ℕ → Centre → Type 0 where
  starts : (x y : Centre) (s out : List ℕ) (n : Number) → start_of s ≡ Ok n → Replays 0 x (drop n.next s) out y → ReplaysTrace x s out y
  fails : (x : Centre) (s : List ℕ) (k : Refusal) → start_of s ≡ Err k → ReplaysTrace x s (refused_line (number_of k)) x

-- new sessions, and a table with its enrolments
abbrev pub daybreak : Columns → Centre
daybreak c = centre (replicate (session_size * stations) 0) c

-- both files: an enrolment's refusal, and the trace is not read; or what is printed of the trace
pub data Prints : List ℕ → List ℕ → List ℕ → Type 0 where
  refused : (enrolments trace out : List ℕ) (c : Columns) → Enrols empty_table enrolments out c → (out ≡ [] → ⊥) → Prints enrolments trace out
  replayed : (enrolments trace out : List ℕ) (c : Columns) (y : Centre) → Enrols empty_table enrolments [] c → ReplaysTrace (daybreak c) trace out y → Prints enrolments trace out
