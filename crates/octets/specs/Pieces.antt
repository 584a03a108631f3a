-- Document 02, Q-2: how a downlink's counters and data entries lie in lent bytes. Sixteen places for counters, of four bytes each, little endian;
-- sixteen for the entries' lengths; then the entries, one behind the other. What stands behind those in use is not looked at.
use Rattle.std.specs.Prelude.{ℕ, zero, suc, ◌+◌, ◌-◌, Bool, true, ◌&&◌, List, [], ◌∷◌, ◌++◌, leb, ltb, length, take, drop, replicate}
use Rattle.octets.specs.{Number.little_at, Bytes.little_bytes}

abbrev pub lengths_place : ℕ
lengths_place = 64

abbrev pub pieces_place : ℕ
pieces_place = 80

-- n counters from a place on
unfoldable pub counters_from : List ℕ → ℕ → ℕ → List ℕ
counters_from d zero p = []
counters_from d (suc n) p = little_at d p 4 ∷ counters_from d n (p + 4)

-- bytes cut into pieces of these lengths
unfoldable pub cut_by : List ℕ → List ℕ → List (List ℕ)
cut_by [] d = []
cut_by (n ∷ ns) d = take n d ∷ cut_by ns (drop n d)

unfoldable pub sum_of : List ℕ → ℕ
sum_of [] = 0
sum_of (n ∷ ns) = n + sum_of ns

-- the first n counters, lengths and entries of lent bytes
abbrev pub counters_lent : ℕ → List ℕ → List ℕ
counters_lent n d = counters_from d n 0

abbrev pub lengths_lent : ℕ → List ℕ → List ℕ
lengths_lent n d = take n (drop lengths_place d)

abbrev pub pieces_lent : ℕ → List ℕ → List (List ℕ)
pieces_lent n d = cut_by (lengths_lent n d) (drop pieces_place d)

-- n entries have places, and all their bytes are there
abbrev pub are_lent : ℕ → List ℕ → Bool
are_lent n d = leb n 16 && leb (pieces_place + sum_of (lengths_lent n d)) (length d)

-- numbers below a bound
abbrev pub are_below : ℕ → List ℕ → Bool
are_below b [] = true
are_below b (n ∷ ns) = ltb n b && are_below b ns

-- the way back: zeros in the places that are not used
unfoldable pub counter_bytes : List ℕ → List ℕ
counter_bytes [] = []
counter_bytes (c ∷ cs) = little_bytes 4 c ++ counter_bytes cs

unfoldable pub lengths_of : List (List ℕ) → List ℕ
lengths_of [] = []
lengths_of (d ∷ ds) = length d ∷ lengths_of ds

unfoldable pub strung : List (List ℕ) → List ℕ
strung [] = []
strung (d ∷ ds) = d ++ strung ds

abbrev pub filled_up : ℕ → List ℕ → List ℕ
filled_up n d = d ++ replicate (n - length d) 0

unfoldable pub downlink_bytes : List ℕ → List (List ℕ) → List ℕ
downlink_bytes cs ds = filled_up lengths_place (counter_bytes cs) ++ (filled_up 16 (lengths_of ds) ++ strung ds)
