-- Two's complement: a signed number as its w bits, and back.
use Rattle.std.specs.Prelude.{ℕ, suc, ◌-◌, ◌^◌}
use lib.{Dec.ltb, IntN.ℤ, IntN.pos, IntN.negsuc}
use Rattle.octets.specs.Choice.{either}

abbrev pub bits_of : ℕ → ℤ → ℕ
bits_of w (pos n) = n
bits_of w (negsuc k) = 2 ^ w - suc k

abbrev pub signed_of : ℕ → ℕ → ℤ
signed_of w n = either (ltb n (2 ^ (w - 1))) (λ _. pos n) (λ _. negsuc (2 ^ w - suc n))
