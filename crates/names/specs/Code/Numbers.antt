-- A name's place by its length and two numbers that its bytes write: what the private functions state.
use Rattle.std.specs.Prelude.{ℕ, suc, ◌-◌}
use mathlib.Core.{Bool.Bool, Bool.◌&&◌, List.List, List.[], List.◌∷◌}
use lib.{Dec.eqb, ListN.length}
use Rattle.octets.specs.{Choice.either, Number.big_at}

-- the number of the first m bytes, and that of the others
abbrev pub first_of : ℕ → List ℕ → ℕ
first_of m u = big_at u 0 m

abbrev pub rest_of : ℕ → List ℕ → ℕ
rest_of m u = big_at u m (length u - m)

-- u has n bytes, of which the first m write x and the others y
abbrev pub has_numbers : ℕ → ℕ → ℕ → ℕ → List ℕ → Bool
has_numbers n m x y u = eqb (length u) n && (eqb (first_of m u) x && eqb (rest_of m u) y)

-- the place of the first name that passes a test; one past the last where none does
unfoldable pub first_with : (List ℕ → Bool) → List (List ℕ) → ℕ
first_with f [] = 0
first_with f (u ∷ us) = either (f u) (λ _. 0) (λ _. suc (first_with f us))

unfoldable pub place_by : List (List ℕ) → ℕ → ℕ → ℕ → ℕ → ℕ
place_by names n m x y = first_with (has_numbers n m x y) names
