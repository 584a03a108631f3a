-- For the private function that tells a message.
use mathlib.Core.{Path.◌≡◌, Bool.true, List.List}
use Rattle.std.specs.Prelude.{ℕ, length, Result, Ok}
use Rattle.refusal.specs.declared.Broken.{Broken}
use Rattle.record.specs.declared.Counted.{Counted}
use Rattle.record.specs.Says.{is_named}
use Rattle.layout.specs.{Image.message_size, Taken.message_at}
use Rattle.chozukpima.specs.Packed.{answer_refusal}

-- where nothing was refused: the record that was told is found again in the message
pub record Stands (t : Result Counted Broken) (answer : ℕ) (m : List ℕ) : Type 0 where
  pub told : answer_refusal answer ≡ 0 → (x : Counted) × (t ≡ Ok x) × (is_named x.message.body ≡ true → message_at m ≡ x.message)
  pub long : answer_refusal answer ≡ 0 → length m ≡ message_size
