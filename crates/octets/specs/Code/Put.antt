-- A number put into bytes by a call that takes any width.
use Rattle.std.specs.Prelude.{ℕ, List, leb}
use Rattle.octets.specs.{Choice.either, Bytes.put_at}

-- d with a number's n bytes vs from `at` on, where n is at most 8; else d as it is
abbrev pub put_number : List ℕ → ℕ → ℕ → List ℕ → List ℕ
put_number d at n vs = either (leb n 8) (λ _. put_at d at vs) (λ _. d)
