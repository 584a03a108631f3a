-- What the calls on traces answer, and what the lent bytes and the time hold afterwards: a refused call changes nothing. Of a record that is read, its length is in
-- bits 16 to 31 of the answer, its frame's length in bits 32 to 47, its station from 48 on.
use Rattle.std.specs.Prelude.{ℕ, ◌+◌, ◌*◌, List, Result, Ok, Err}
use Rattle.refusal.specs.declared.Refusal.{Refusal}
use Rattle.refusal.specs.Number.{number_of}
use Rattle.groups.specs.declared.Number.{Number}
use Rattle.trace.specs.declared.Entry.{Entry}
use Rattle.trace.specs.{Record.entry_of, Write.record_in, Write.start_in}
use Rattle.chozukpima.specs.{Packed.packed, Packed.refused_with, Packed.value_answer, Messages.Filled, Messages.filled}

abbrev pub wrote_answer : Result ℕ Refusal → ℕ
wrote_answer w = value_answer w

-- the start of a trace, written and read
unfoldable pub trace_start_returns : List ℕ → Filled
trace_start_returns room = filled (wrote_answer (start_in room).answer) (start_in room).room

abbrev pub open_answer : Result Number Refusal → ℕ
open_answer (Ok n) = packed 0 0 n.next
open_answer (Err k) = refused_with (number_of k)

-- an answer, the sum of the gaps and the room afterwards
pub record Timed : Type 0 where
  pub answer : ℕ
  pub time : ℕ
  pub room : List ℕ

abbrev pub timed : ℕ → ℕ → List ℕ → Timed
timed n t room = record { answer = n; time = t; room = room }

-- a record written: its gap is added where it is taken
abbrev pub time_after : Result ℕ Refusal → ℕ → ℕ → ℕ
time_after (Ok n) time gap = time + gap
time_after (Err k) time gap = time

unfoldable pub record_returns : ℕ → ℕ → ℕ → List ℕ → List ℕ → Timed
record_returns time gap station frame room =
    timed (wrote_answer (record_in time gap station frame room).answer) (time_after (record_in time gap station frame room).answer time gap) (record_in time gap station frame room).room

-- a record read
unfoldable pub entry_answer : Entry → ℕ
entry_answer e = packed 0 0 ((e.from + e.size) + (65536 * e.size + 4294967296 * e.station))

-- an answer and the sum of the gaps afterwards
pub record Advanced : Type 0 where
  pub answer : ℕ
  pub time : ℕ

abbrev pub advanced : ℕ → ℕ → Advanced
advanced n t = record { answer = n; time = t }

abbrev pub entry_returns : ℕ → Result Entry Refusal → Advanced
entry_returns time (Ok e) = advanced (entry_answer e) (time + e.gap)
entry_returns time (Err k) = advanced (refused_with (number_of k)) time

unfoldable pub recorded_returns : ℕ → List ℕ → Advanced
recorded_returns time s = entry_returns time (entry_of time s)
