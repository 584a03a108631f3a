-- Document 01, "Program": the lines that are printed. Per frame its number from 0, then command and opId, or `refused` and the number; last
-- `frames` and the count of whole frames.
use Rattle.std.specs.Prelude.{ℕ, suc, List, [], ◌∷◌, ◌++◌, Result}
use Rattle.refusal.specs.declared.Broken.{Broken}
use lib.{Dec.eqb, IntN.ℤ, IntN.pos, IntN.negsuc}
use Rattle.octets.specs.Choice.{either}
use Rattle.forms.specs.Shortest.{digits_of}
use Rattle.names.specs.Names.{bytes, commands, name_at}
use Rattle.record.specs.declared.Counted.{Counted}
use Rattle.record.specs.{Record.command_in, Meant.refusal_told, Meant.message_told}

-- a number below 2^64 has at most 20 decimal digits
abbrev pub decimal : ℕ → List ℕ
decimal n = digits_of 20 n

unfoldable pub signed_decimal : ℤ → List ℕ
signed_decimal (pos n) = decimal n
signed_decimal (negsuc k) = bytes "-" ++ decimal (suc k)

abbrev pub newline : List ℕ
newline = 0x0A ∷ []

-- words, a number and the end of the line
abbrev pub counted : List ℕ → ℕ → List ℕ
counted words n = words ++ (decimal n ++ newline)

-- behind a frame's number, by its payload's refusal: 0 where it is read
unfoldable pub outcome : ℕ → ℕ → ℤ → List ℕ
outcome refusal command id =
    either (eqb refusal 0) (λ _. (bytes " " ++ (name_at commands command ++ bytes " ")) ++ (signed_decimal id ++ newline)) (λ _. counted (bytes " refused ") refusal)

unfoldable pub line_for : ℕ → ℕ → ℕ → ℤ → List ℕ
line_for number refusal command id = decimal number ++ outcome refusal command id

-- the line of a whole frame
abbrev pub line_of : ℕ → Result Counted Broken → List ℕ
line_of number t = line_for number (refusal_told t) (command_in (message_told t).body) (message_told t).op_id

-- the last line: so many whole frames
unfoldable pub end_line : ℕ → List ℕ
end_line count = counted (bytes "frames ") count

-- the last two lines where the next frame is refused with 1, 2 or 3: its number is the count of those before it
unfoldable pub stop_lines : ℕ → ℕ → List ℕ
stop_lines number refusal = (decimal number ++ counted (bytes " refused ") refusal) ++ counted (bytes "frames ") number
