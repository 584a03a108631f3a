-- The rules between fields: the fault of a reading and the test of a record say the same. Assumes nothing.
use mathlib.Core.Path.{◌≡◌, refl}
use mathlib.Core.Bool.{Bool, true, false, not, ◌&&◌, ◌||◌}
use Prim.Native.Nat.{ℕ}
use native.Mathlib.Omega.{arith}
use lib.Dec.{T}
use Rattle.octets.specs.Choice.{either}
use Rattle.octets.proofs.Ranges.{true_false}
use Rattle.message.specs.Reading.{graded}

pub unbroken : (b : Bool) (i : ℕ) → either b (λ _. graded 1 i) (λ _. 0) ≡ 0 → b ≡ false
unbroken true i e = absurd (omega arith)
unbroken false i e = refl

-- r is responseExp; o is dlOpen, and h whether it is there
pub uncrossed : (r h o : Bool) → T (not r || o) → r && (h && not o) ≡ false
uncrossed true true true t = refl
uncrossed true false true t = refl
uncrossed true h false t = absurd t
uncrossed false h o t = refl

pub no_cross : (r h o : Bool) → T h → r && (h && not o) ≡ false → T (not r || o)
no_cross true true true t e = tt
no_cross true true false t e = true_false e
no_cross true false o t e = absurd t
no_cross false h o t e = tt
