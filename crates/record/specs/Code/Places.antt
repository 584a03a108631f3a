-- The answer by places in the bytes: what the code goes by. proofs/Answered ties it to `Meant`.
use Rattle.std.specs.Prelude.{ℕ, List, Ok, Err}
use lib.{Dec.eqb, Dec.ltb, ListN.length, ListN.get_or}
use Rattle.refusal.specs.declared.Refusal.TheVariants as refusal
use Rattle.octets.specs.{Choice.either, Size.is_size}
use Rattle.element.specs.Form.{Role, Step, element_of}
use Rattle.message.specs.{Fields.fields_of, Code.Cells.cells_at, Code.Cells.places_of, Code.Cells.command_at}
use Rattle.record.specs.Reading.{Reading, reading_by}
use Rattle.record.specs.Meant.{Answered, breaks, refuses, answer_of, lent_size}

-- 11, 12, then the command's fields
abbrev pub reading_numbered : List ℕ → List ℕ → ℕ → Reading
reading_numbered s places c =
    either (ltb c 24) (λ _. reading_by c (fields_of c) (cells_at (fields_of c) s places))
    (λ _. either (eqb c 24) (λ _. Reading.refused refusal.UnknownCommand) (λ _. Reading.refused refusal.NoCommand))

unfoldable pub reading_at : List ℕ → List ℕ → Reading
reading_at s places = reading_numbered s places (command_at s (get_or places 0 0))

-- the walk's answer, and behind a walk that went through the reading
abbrev pub answer_by : List ℕ → List ℕ → Step → Answered
answer_by s d (Ok n) = either (ltb n.at (length s)) (λ _. breaks (record { refusal = refusal.LeftOver; place = n.at }) d) (λ _. answer_of n.count d (reading_at s (places_of s)))
answer_by s d (Err b) = breaks b d

unfoldable pub answer_at : List ℕ → List ℕ → Answered
answer_at s d =
    either (ltb (length d) lent_size) (λ _. refuses refusal.Invalid d)
    (λ _. either (is_size (length s)) (λ _. answer_by s d (element_of s 8 Role.outer 0 0)) (λ _. refuses refusal.Size d))
