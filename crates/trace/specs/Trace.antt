-- Document 02, Q-3: whole traces. "A trace is the number 1, then records."
use mathlib.Core.{Path.◌≡◌, Bool.Bool, Bool.true, Bool.◌&&◌, List.List, List.[], List.◌∷◌, List.◌++◌}
use Rattle.std.specs.Prelude.{ℕ, ◌+◌, drop, Option, None, Some, Ok, Err}
use Rattle.refusal.specs.declared.Refusal.{Refusal}
use Rattle.groups.specs.declared.Number.{Number}
use Rattle.groups.specs.Groups.{number_bytes}
use Rattle.trace.specs.declared.Entry.{Entry}
use Rattle.trace.specs.{Record.is_one_frame, Record.is_time, Record.is_station, Record.entry_of, Record.frame_of, Record.start_of, Write.record_bytes}

-- a record of what arrived
pub record Arrival : Type 0 where
  pub gap : ℕ
  pub station : ℕ
  pub frame : List ℕ

unfoldable pub records_bytes : List Arrival → List ℕ
records_bytes [] = []
records_bytes (a ∷ l) = record_bytes a.gap a.station a.frame ++ records_bytes l

unfoldable pub trace_bytes : List Arrival → List ℕ
trace_bytes l = number_bytes 1 ++ records_bytes l

-- records that the writer takes one after another, behind gaps of this sum
unfoldable pub are_records : ℕ → List Arrival → Bool
are_records sum [] = true
are_records sum (a ∷ l) = is_time (sum + a.gap) && (is_station a.station && (is_one_frame a.frame && are_records (sum + a.gap) l))

-- the record that is read at the start of the bytes, and where it ends
abbrev pub arrival_of : List ℕ → Entry → Arrival
arrival_of s e = record { gap = e.gap; station = e.station; frame = frame_of s e }

abbrev pub end_of : Entry → ℕ
end_of e = e.from + e.size

-- the records that are read from bytes one after another, and the refusal that ends it; none where nothing is left
pub data Reads : ℕ → List ℕ → List Arrival → Option Refusal → Type 0 where
  finished : (sum : ℕ) → Reads sum [] [] None
  reads : (sum : ℕ) (s : List ℕ) (l : List Arrival) (k : Option Refusal) (e : Entry) → entry_of sum s ≡ Ok e
      → Reads (sum + e.gap) (drop (end_of e) s) l k → Reads sum s (arrival_of s e ∷ l) k
  stops : (sum : ℕ) (s : List ℕ) (k : Refusal) → (s ≡ [] → ⊥) → entry_of sum s ≡ Err k → Reads sum s [] (Some k)

-- a whole trace
pub data ReadsTrace : List ℕ → List Arrival → Option Refusal → Type 0 where
  starts : (s : List ℕ) (l : List Arrival) (k : Option Refusal) (n : Number) → start_of s ≡ Ok n → Reads 0 (drop n.next s) l k → ReadsTrace s l k
  fails : (s : List ℕ) (k : Refusal) → start_of s ≡ Err k → ReadsTrace s [] (Some k)
