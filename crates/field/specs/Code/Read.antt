-- For the private readers: a value as it is handed on. No statement of a public function rests on this page.
use Rattle.std.specs.Prelude.{ℕ, Option, Some, None, Result, Ok, Err, zero, suc}
use mathlib.Core.{Bool.◌&&◌, List.List}
use mathlib.Core.Option as maybe
use lib.Dec.{leb}
use Rattle.octets.specs.Choice.{either}
use Rattle.field.specs.declared.Flaw.{Flaw, TheVariants.Missing, TheVariants.Twice}
use Rattle.field.specs.{Kind.Kind, Kind.Value, Judge.on_some, Judge.real_in, Judge.judge, Code.At.seen_at}
use Rattle.number.specs.Number.{Found}

-- what f makes of a value, if there is one
unfoldable pub tell : {A : Type 0} → (Value → A) → maybe.Option Value → Option A
tell f maybe.none = None
tell f (maybe.some v) = Some (f v)

-- and of the element at a place, under a kind
unfoldable pub read_at : {A : Type 0} → (Value → A) → Kind → List ℕ → ℕ → Option A
read_at f k s at = tell f (judge k (seen_at k s at))

-- where a key's value stands, if it has one place
abbrev pub place_of : ℕ → Result ℕ Flaw
place_of zero = Err Missing
place_of (suc zero) = Err Twice
place_of (suc (suc p)) = Ok (suc (suc p))

-- so many to so many bytes or parts
unfoldable pub sized_of : ℕ → ℕ → ℕ → Option ℕ
sized_of lo hi n = either (leb lo n && leb n hi) (λ _. Some n) (λ _. None)

-- a number as a real
abbrev pub real_value_in : Found → maybe.Option Value
real_value_in n = on_some (real_in n) (λ x. maybe.some (Value.figure x))
