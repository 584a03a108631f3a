-- Bytes below 0x80: each is a number of one byte.
use Rattle.std.specs.Prelude.{ℕ, zero, suc, ◌+◌}
use mathlib.Core.{Bool.Bool, Bool.true, Bool.◌&&◌, List.List}
use lib.{Dec.leb, Dec.ltb, ListN.length, ListN.get_or}

unfoldable pub low_from : List ℕ → ℕ → ℕ → Bool
low_from s at zero = true
low_from s at (suc n) = low_from s at n && ltb (get_or s (at + n) 0) 0x80

-- n bytes from `at` on are there, and each is below 0x80
abbrev pub are_low : List ℕ → ℕ → ℕ → Bool
are_low s at n = leb (at + n) (length s) && low_from s at n
