-- What reading a payload answers, and what the lent bytes hold afterwards: the first break of its form, or the reading of its element. No parser is
-- in it but the first break.
use mathlib.Core.{Path.◌≡◌, List.List}
use Rattle.std.specs.Prelude.{ℕ, ◌≤◌, ◌<◌, Result, Ok, Err}
use lib.{IntN.pos, ListN.length}
use Rattle.refusal.specs.{Number.number_of}
use Rattle.refusal.specs.declared.{Broken.Broken, Refusal.Refusal, Refusal.TheVariants.Invalid}
use Rattle.octets.specs.Bytes.{put_at}
use Rattle.element.specs.{Form.walk_of, Tree.Tree, Tree.count_of, Tree.Payload, Meaning.meaning_of}
use Rattle.message.specs.Reading.{outer_of}
use Rattle.record.specs.declared.{Body.Body, Message.Message, Counted.Counted}
use Rattle.record.specs.Reading.{Reading, reading_of}

-- an answer, and the lent bytes afterwards
pub record Answered : Type 0 where
  pub told : Result Counted Broken
  pub lent : List ℕ

-- document 01's number, place, count and record of what is told: zeros besides
abbrev pub refusal_told : Result Counted Broken → ℕ
refusal_told (Ok x) = 0
refusal_told (Err b) = number_of b.refusal

abbrev pub place_told : Result Counted Broken → ℕ
place_told (Ok x) = 0
place_told (Err b) = b.place

abbrev pub count_told : Result Counted Broken → ℕ
count_told (Ok x) = x.count
count_told (Err b) = 0

abbrev pub message_told : Result Counted Broken → Message
message_told (Ok x) = x.message
message_told (Err b) = record { op_id = pos 0; body = Body.Bare 0 }

-- a refusal with the place of a byte, or with no place, and the lent bytes stay
abbrev pub breaks : Broken → List ℕ → Answered
breaks b d = record { told = Err b; lent = d }

abbrev pub refuses : Refusal → List ℕ → Answered
refuses r d = breaks (record { refusal = r; place = 0 }) d

-- else the record, its count of elements, and its bytes at the start of those lent
abbrev pub answer_of : ℕ → List ℕ → Reading → Answered
answer_of c d (Reading.refused r) = refuses r d
answer_of c d (Reading.reads m e) = record { told = Ok (record { count = c; message = m }); lent = put_at d 0 e }

-- so many bytes are enough for every message's
abbrev pub lent_size : ℕ
lent_size = 880

-- fewer are 15 before all others; for a payload that breaks a rule of form, the break; for the bytes of a lawful tree, the reading of its element
pub record Meant (s d : List ℕ) (r : Answered) : Type 0 where
  pub short : length d < lent_size → r ≡ refuses Invalid d
  pub broken : lent_size ≤ length d → (b : Broken) → walk_of s ≡ Err b → r ≡ breaks b d
  pub whole : lent_size ≤ length d → (w : Tree) → Payload s w → r ≡ answer_of (count_of w) d (reading_of (outer_of (meaning_of w)))
