-- The sessions of all stations, one behind the other, and the table: what a frame of one station leaves of both.
use Rattle.std.specs.Prelude.{ℕ, ◌*◌, length, take, drop, Option}
use mathlib.Core.{Path.◌≡◌, List.List, List.◌++◌}
use Rattle.frame.specs.Frame.{payload_of}
use Rattle.session.specs.Image.{session_size}
use Rattle.meters.specs.Columns.{Columns}
use Rattle.play.specs.declared.Credited.{Credited}
use Rattle.play.specs.Play.{Played, Lends, Plays}

-- "Up to 64 base stations", numbered from 0
abbrev pub stations : ℕ
stations = 64

pub record Centre : Type 0 where
  pub sessions : List ℕ
  pub table : Columns

abbrev pub centre : List ℕ → Columns → Centre
centre d c = record { sessions = d; table = c }

-- station k's session
abbrev pub session_of : List ℕ → ℕ → List ℕ
session_of d k = take session_size (drop (session_size * k) d)

-- the sessions with this one for station k
abbrev pub with_session : List ℕ → ℕ → List ℕ → List ℕ
with_session d k x = take (session_size * k) d ++ (x ++ drop session_size (drop (session_size * k) d))

-- a whole frame of station k: its payload is all that stands behind the head
pub record PlaysFrame (h : Lends) (before : Centre) (k : ℕ) (frame : List ℕ) (after : Centre) (r : Option Credited) : Type 0 where
  pub played : Played
  pub plays : Plays h (payload_of (length frame) frame) (session_of before.sessions k) before.table k played
  pub sessions : after.sessions ≡ with_session before.sessions k played.session
  pub table : after.table ≡ played.table
  pub reading : r ≡ played.reading
