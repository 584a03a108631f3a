-- What the order of prios goes by: sign and size of a real's bits as one number, so that minus and plus zero have one rank.
use Rattle.std.specs.Prelude.{ℕ, ◌+◌, ◌-◌, ◌%◌, Bool, true, false, ◌&&◌, ◌||◌}
use lib.{Dec.leb, Dec.ltb, Ieee.binary64, Ieee.top, Ieee.lt, Ieee.eq, Ieee.of_bits}

abbrev pub rank_by : ℕ → Bool → ℕ → ℕ
rank_by c false n = c + n
rank_by c true n = c - n

unfoldable pub rank_of : ℕ → ℕ
rank_of b = rank_by (top binary64) (leb (top binary64) b) (b % top binary64)

-- the higher prio, then the smaller ID, where the prios are bits
unfoldable pub bits_before : ℕ → ℕ → ℕ → ℕ → Bool
bits_before p i o j = lt (of_bits binary64 o) (of_bits binary64 p) || (eq (of_bits binary64 p) (of_bits binary64 o) && ltb i j)
