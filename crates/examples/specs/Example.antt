-- What an example says, one kind of row for each thing that examples speak of. No bytes are lent beside their records.
use mathlib.Core.{Path.◌≡◌, List.List, List.[], List.◌∷◌, Option.some, Option.none}
use Rattle.std.specs.Prelude.{ℕ, ◌≤◌, Result}
use Rattle.refusal.specs.declared.Refusal.{Refusal}
use lib.{Ieee.Float, Ieee.binary64, Ieee.to_bits, ListN.length, ListN.replicate}
use Rattle.octets.specs.Bytes.{big_bytes}
use Rattle.element.specs.Code.At.{leaf_at}
use Rattle.field.specs.{Kind.Kind, Kind.Value, Judge.judge}
use Rattle.record.specs.declared.Message.{Message}
use Rattle.record.specs.{Reading.Reading, Written.payload_for, Written.frame_for}
use Rattle.record.specs.Meant.{answer_of, breaks, lent_size, Meant}
use Rattle.writer.specs.Write.{written}

pub data Example : Type 0 where
  -- a payload has so many bytes
  size : List ℕ → ℕ → Example
  -- a payload of so many elements is read as a record
  read : List ℕ → ℕ → Message → Example
  -- a payload is refused, with a place
  refused : List ℕ → Refusal → ℕ → Example
  -- an element is worth that real, which is kept as those eight bytes
  real : List ℕ → Float → List ℕ → Example
  -- an element is worth no real: 15
  no_real : List ℕ → Example
  -- a record takes so many bytes, and so many with its frame
  takes : Message → ℕ → ℕ → Example
  -- writing a record to a room of so many bytes
  writing : Message → ℕ → Result ℕ Refusal → Example

abbrev pub Holds : Example → Type 0
Holds (size s n) = length s ≡ n
Holds (read s n m) = (d : List ℕ) → lent_size ≤ length d → Meant s d (answer_of n d (Reading.reads m []))
Holds (refused s r p) = (d : List ℕ) → lent_size ≤ length d → Meant s d (breaks (record { refusal = r; place = p }) d)
Holds (real s x kept) = (judge Kind.reals (leaf_at s 0) ≡ some (Value.figure x)) × (big_bytes 8 (to_bits binary64 x) ≡ kept)
Holds (no_real s) = judge Kind.reals (leaf_at s 0) ≡ none
Holds (takes m n framed) = (length (payload_for m []) ≡ n) × (length (frame_for m []) ≡ framed)
Holds (writing m n w) = (written m [] (replicate n 0)).answer ≡ w

abbrev pub AllHold : List Example → Type 0
AllHold [] = Unit {0}
AllHold (e ∷ es) = Holds e × AllHold es
