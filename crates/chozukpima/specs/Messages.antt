-- What the calls on messages answer, and what the lent bytes hold afterwards.
use mathlib.Core.{Path.◌≡◌, Bool.true, List.List}
use Rattle.std.specs.Prelude.{ℕ, Result, Ok, Err}
use lib.{Dec.eqb, ListN.length}
use Rattle.octets.specs.Choice.{either}
use Rattle.refusal.specs.{Number.number_of, declared.Broken.Broken}
use Rattle.record.specs.declared.Counted.{Counted}
use Rattle.record.specs.{Fits.fits, Meant.Answered, Meant.Meant}
use Rattle.writer.specs.Write.{Sent, written, write_refusal, length_of}
use Rattle.layout.specs.{Image.message_size, Image.message_image, Taken.message_at}
use Rattle.chozukpima.specs.Packed.{packed, refused_with, answer_refusal}

-- an answer, and the bytes that the call may set afterwards: a message's, or the room's
pub record Filled : Type 0 where
  pub answer : ℕ
  pub bytes : List ℕ

abbrev pub filled : ℕ → List ℕ → Filled
filled n d = record { answer = n; bytes = d }

-- the count of elements and the record's image; or the refusal with its place, and the message as it was
unfoldable pub told_into : Result Counted Broken → List ℕ → Filled
told_into (Ok x) m = filled (packed 0 0 x.count) (message_image x.message)
told_into (Err b) m = filled (packed (number_of b.refusal) 0 b.place) m

-- an answer, and the message and its data afterwards
pub record Got : Type 0 where
  pub answer : ℕ
  pub message : List ℕ
  pub lent : List ℕ

abbrev pub got : Filled → List ℕ → Got
got p d = record { answer = p.answer; message = p.bytes; lent = d }

-- a message of another length is 15 before all others; else what the payload means is answered
pub record ReadInto (payload m d : List ℕ) (r : Got) : Type 0 where
  pub long : (length m ≡ message_size → ⊥) → r ≡ got (filled (refused_with 15) m) d
  pub meant : length m ≡ message_size → (a : Answered) → Meant payload d a → r ≡ got (told_into a.told m) a.lent

-- where nothing was refused: the message and the data that were left may be written
pub record Kept (answer : ℕ) (m d : List ℕ) : Type 0 where
  pub long : answer_refusal answer ≡ 0 → length m ≡ message_size
  pub fit : answer_refusal answer ≡ 0 → fits (message_at m) d ≡ true

abbrev pub put_by : Sent → Filled
put_by s = filled (packed (write_refusal s.answer) 0 (length_of s.answer)) s.room

unfoldable pub write_returns : List ℕ → List ℕ → List ℕ → Filled
write_returns m d room = either (eqb (length m) message_size) (λ _. put_by (written (message_at m) d room)) (λ _. filled (refused_with 15) room)
