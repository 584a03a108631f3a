-- For the private writers: the lines part by part, each digit a part. No statement of a public function rests on this page.
use Rattle.std.specs.Prelude.{ℕ, suc, List, [], ◌∷◌, ◌++◌}
use lib.{Dec.eqb, IntN.ℤ, IntN.pos, IntN.negsuc}
use Rattle.octets.specs.Choice.{either}
use Rattle.forms.specs.Code.Put.{digit_parts}
use Rattle.names.specs.Names.{bytes, commands, name_at}
use Rattle.lines.specs.Lines.{newline}

abbrev pub decimal_parts : ℕ → List (List ℕ)
decimal_parts n = digit_parts 20 n

unfoldable pub signed_parts : ℤ → List (List ℕ)
signed_parts (pos n) = decimal_parts n
signed_parts (negsuc k) = bytes "-" ∷ decimal_parts (suc k)

unfoldable pub counted_parts : List ℕ → ℕ → List (List ℕ)
counted_parts words n = words ∷ (decimal_parts n ++ (newline ∷ []))

abbrev pub named_parts : ℕ → List (List ℕ)
named_parts command = bytes " " ∷ (name_at commands command ∷ (bytes " " ∷ []))

unfoldable pub message_parts : ℕ → ℤ → List (List ℕ)
message_parts command id = named_parts command ++ (signed_parts id ++ (newline ∷ []))

unfoldable pub line_parts : ℕ → ℕ → ℕ → ℤ → List (List ℕ)
line_parts number refusal command id =
    decimal_parts number ++ either (eqb refusal 0) (λ _. message_parts command id) (λ _. counted_parts (bytes " refused ") refusal)

unfoldable pub stop_parts : ℕ → ℕ → List (List ℕ)
stop_parts number refusal = (decimal_parts number ++ counted_parts (bytes " refused ") refusal) ++ counted_parts (bytes "frames ") number
