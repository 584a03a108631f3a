-- The heard column: 64 bits, one per base station (document 01, "Meter table").
use Rattle.std.specs.Prelude.{ℕ, zero, suc, ◌+◌, ◌/◌, ◌%◌, ◌^◌, Bool, cond, List, [], ◌∷◌, ◌++◌}
use lib.{Dec.eqb, ListN.length}

-- the numbers below n, in order
unfoldable pub numbers_to : ℕ → List ℕ
numbers_to zero = []
numbers_to (suc n) = numbers_to n ++ (n ∷ [])

-- those of a list that pass a test, in order
unfoldable pub passing : (ℕ → Bool) → List ℕ → List ℕ
passing t [] = []
passing t (x ∷ xs) = cond (t x) (x ∷ passing t xs) (passing t xs)

-- whether station s is in the set: bit s of the number
unfoldable pub hears : ℕ → ℕ → Bool
hears h s = eqb (h / 2 ^ s % 2) 1

-- the set of stations of a heard number
unfoldable pub stations : ℕ → List ℕ
stations h = passing (hears h) (numbers_to 64)

-- "how many base stations heard the packet so far"
unfoldable pub hearers : ℕ → ℕ
hearers h = length (stations h)

-- "heard empty", "heard is this station only", "station added"
abbrev pub nobody : ℕ
nobody = 0

abbrev pub alone : ℕ → ℕ
alone s = 2 ^ s

unfoldable pub with_hearer : ℕ → ℕ → ℕ
with_hearer h s = cond (hears h s) h (h + 2 ^ s)
