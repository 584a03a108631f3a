-- No break of form has the number 0. Assumes nothing.
use mathlib.Core.{Path.◌≡◌, List.List}
use Prim.Native.Nat.{ℕ, ◌<◌}
use Rattle.std.specs.Prelude.{Err}
use Rattle.refusal.specs.{Number.number_of, declared.Broken.Broken}
use Rattle.refusal.proofs.Numbers.{number_some}
use Rattle.element.specs.Form.{walk_of}

pub break_number : (s : List ℕ) (b : Broken) → walk_of s ≡ Err b → 0 < number_of b.refusal
break_number s b e = number_some b.refusal
