-- The bytes behind a number's lead byte, where they are there.
use Rattle.std.specs.Prelude.{ℕ, Bool, Option, Some, None, List, length}
use Rattle.octets.specs.{Choice.either, Number.big_at, Number.is_there}
use Rattle.number.specs.Number.{Found}

abbrev pub given : {A : Type 0} → Bool → A → Option A
given there x = either there (λ _. Some x) (λ _. None)

-- the number in n bytes, where n is at most 8 and all of them are there
unfoldable pub bits_at : List ℕ → ℕ → ℕ → Option ℕ
bits_at s at n = given (is_there (length s) at n) (big_at s at n)

-- what is read of such bits, if they are there
abbrev pub read_by : (ℕ → Found) → Option ℕ → Found
read_by f None = None
read_by f (Some x) = f x
