-- Document 02, Q-3: "Numbers are groups of seven bits, lowest group first, high bit set on all but the last byte, below 2^64, shortest form only; 300 is AC 02."
use Rattle.std.specs.Prelude.{ℕ, zero, suc, ◌+◌, ◌*◌, ◌/◌, ◌%◌, List, [], ◌∷◌, Result, Ok, Err}
use lib.{Dec.eqb, Dec.ltb, Dec.leb, ListN.length, ListN.get_or}
use Rattle.octets.specs.Choice.{either}
use Rattle.refusal.specs.declared.Refusal.{Refusal, TheVariants.NotShortest, TheVariants.InputEnds}
use Rattle.groups.specs.declared.Number.{Number}

-- the groups of a number, at most so many
unfoldable pub groups_of : ℕ → ℕ → List ℕ
groups_of zero n = []
groups_of (suc most) n = either (ltb n 128) (λ _. n ∷ []) (λ _. (128 + n % 128) ∷ groups_of most (n / 128))

-- the bytes of a number below 2^64: at most ten
abbrev pub number_bytes : ℕ → List ℕ
number_bytes n = groups_of 10 n

-- a number that ends with this byte
abbrev pub last_group : ℕ → ℕ → Number
last_group b next = record { value = b; next = next }

-- the tenth byte holds the one bit that is left (32)
unfoldable pub tenth_group : ℕ → ℕ → Result Number Refusal
tenth_group b next = either (leb b 1) (λ _. Ok (last_group b next)) (λ _. Err NotShortest)

-- a group in front of others, which are not 0: else the form is not the shortest (32)
unfoldable pub behind : ℕ → Number → Result Number Refusal
behind low o = either (eqb o.value 0) (λ _. Err NotShortest) (λ _. Ok (record { value = low + 128 * o.value; next = o.next }))

-- what follows a number that is there; its refusal otherwise
abbrev pub on_number : {A : Type 0} → Result Number Refusal → (Number → Result A Refusal) → Result A Refusal
on_number (Ok o) f = f o
on_number (Err k) f = Err k

-- the byte at a place, where it is there: else the input ends inside a number (33)
abbrev pub on_byte : List ℕ → ℕ → (ℕ → Result Number Refusal) → Result Number Refusal
on_byte s at f = either (ltb at (length s)) (λ _. f (get_or s at 0)) (λ _. Err InputEnds)

-- the number at a place, whose first byte has at most so many behind it
unfoldable pub groups_at : ℕ → List ℕ → ℕ → Result Number Refusal
groups_at zero s at = on_byte s at (λ b. tenth_group b (suc at))
groups_at (suc more) s at = on_byte s at (λ b. either (ltb b 128) (λ _. Ok (last_group b (suc at))) (λ _. on_number (groups_at more s (suc at)) (behind (b % 128))))

-- the number at a place: its value and the place behind it; 33, 32
abbrev pub number_at : List ℕ → ℕ → Result Number Refusal
number_at s at = groups_at 9 s at
