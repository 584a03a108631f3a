-- Document 01: a version is three decimal numbers 0 to 65,535 joined by dots, no leading zero.
use Rattle.std.specs.Prelude.{ℕ, ◌+◌, ◌-◌, ◌*◌, leb, eqb}
use mathlib.Core.{Bool.◌&&◌, List.List, List.[], List.◌∷◌, Option.Option, Option.some, Option.none}
use Rattle.octets.specs.Choice.{either}
use Rattle.field.specs.Kind.{Value}

-- a byte more in the first part
abbrev pub grown : ℕ → List (List ℕ) → List (List ℕ)
grown c [] = (c ∷ []) ∷ []
grown c (p ∷ ps) = (c ∷ p) ∷ ps

-- a text cut at its dots
unfoldable pub cut_at_dots : List ℕ → List (List ℕ)
cut_at_dots [] = [] ∷ []
cut_at_dots (c ∷ cs) = either (eqb c 0x2E) (λ _. [] ∷ cut_at_dots cs) (λ _. grown c (cut_at_dots cs))

-- what decimal digits write behind a number
unfoldable pub digits_from : ℕ → List ℕ → Option ℕ
digits_from n [] = some n
digits_from n (c ∷ cs) = either (leb 0x30 c && leb c 0x39) (λ _. digits_from (n * 10 + (c - 0x30)) cs) (λ _. none)

abbrev pub at_most : ℕ → Option ℕ → Option ℕ
at_most most none = none
at_most most (some n) = either (leb n most) (λ _. some n) (λ _. none)

-- one of the three numbers: some digit, and no zero in front of another digit
abbrev pub number_of_part : List ℕ → Option ℕ
number_of_part [] = none
number_of_part (c ∷ []) = at_most 65535 (digits_from 0 (c ∷ []))
number_of_part (c ∷ (d ∷ cs)) = either (eqb c 0x30) (λ _. none) (λ _. at_most 65535 (digits_from 0 (c ∷ (d ∷ cs))))

abbrev pub released : Option ℕ → Option ℕ → Option ℕ → Option Value
released (some a) (some b) (some c) = some (Value.release a b c)
released (some a) (some b) none = none
released (some a) none c = none
released none b c = none

abbrev pub three : List (List ℕ) → Option Value
three [] = none
three (a ∷ []) = none
three (a ∷ (b ∷ [])) = none
three (a ∷ (b ∷ (c ∷ []))) = released (number_of_part a) (number_of_part b) (number_of_part c)
three (a ∷ (b ∷ (c ∷ (d ∷ rest)))) = none

unfoldable pub version_of : List ℕ → Option Value
version_of d = three (cut_at_dots d)
