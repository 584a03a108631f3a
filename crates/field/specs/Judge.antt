-- What an element is worth under a kind: its value, or none where it is invalid (document 01's 15).
use Rattle.std.specs.Prelude.{ℕ, suc, ◌^◌, Bool, true, false, ◌&&◌, Float, Some, None}
use mathlib.Core.{List.List, List.[], List.◌∷◌, Option.Option, Option.some, Option.none}
use lib.{Dec.leb, IntN.ℤ, IntN.pos, IntN.negsuc, ListN.length}
use Rattle.std.specs.Float.{binary32, binary64}
use Rattle.std.specs.Float.Ieee.{of_int, fits}
use Rattle.octets.specs.{Choice.either, Pieces.strung}
use Rattle.element.specs.{Meaning.Element, Meaning.Elements, Meaning.Elements.no_more, Meaning.Elements.more}
use Rattle.element.specs.Meaning.Element.{null, truth, whole, single, double, text, octets, typed, list, table}
use Rattle.number.specs.declared.Number.TheVariants.{Signed, Unsigned, Real}
use Rattle.number.specs.Number.{Found, number_of}
use Rattle.field.specs.{Kind.Kind, Kind.Value, Version.version_of}

abbrev pub when : Bool → Value → Option Value
when b v = either b (λ _. some v) (λ _. none)

abbrev pub on_some : {A B : Type 0} → Option A → (A → Option B) → Option B
on_some none f = none
on_some (some a) f = f a

-- a whole number from minus lo to hi
abbrev pub in_range : ℕ → ℕ → ℤ → Bool
in_range lo hi (pos n) = leb n hi
in_range lo hi (negsuc k) = leb (suc k) lo

abbrev pub whole_in : ℕ → ℕ → Found → Option Value
whole_in lo hi (Some (Signed z)) = when (in_range lo hi z) (Value.number z)
whole_in lo hi (Some (Unsigned n)) = when (leb n hi) (Value.number (pos n))
whole_in lo hi (Some (Real x)) = none
whole_in lo hi None = none

-- a whole number from −2^53 to 2^53 is worth the real of exactly that number; 0 is plus zero
abbrev pub whole_real : ℤ → Option Float
whole_real z = either (in_range (2 ^ 53) (2 ^ 53) z) (λ _. some (of_int binary64 z)) (λ _. none)

-- a finite real, or such a whole number
abbrev pub real_in : Found → Option Float
real_in (Some (Signed z)) = whole_real z
real_in (Some (Unsigned n)) = whole_real (pos n)
real_in (Some (Real x)) = some x
real_in None = none

-- a number from 0 to hi
abbrev pub natural_in : ℕ → Found → Option ℕ
natural_in hi (Some (Signed z)) = none
natural_in hi (Some (Unsigned n)) = either (leb n hi) (λ _. some n) (λ _. none)
natural_in hi (Some (Real x)) = none
natural_in hi None = none

abbrev pub octet_in : Found → Option ℕ
octet_in n = natural_in 255 n

-- views of an element
abbrev pub truth_of : Element → Option Bool
truth_of null = none
truth_of (truth b) = some b
truth_of (whole z) = none
truth_of (single n) = none
truth_of (double n) = none
truth_of (text d) = none
truth_of (octets d) = none
truth_of (typed t d) = none
truth_of (list es) = none
truth_of (table fs) = none

abbrev pub text_of : Element → Option (List ℕ)
text_of null = none
text_of (truth b) = none
text_of (whole z) = none
text_of (single n) = none
text_of (double n) = none
text_of (text d) = some d
text_of (octets d) = none
text_of (typed t d) = none
text_of (list es) = none
text_of (table fs) = none

abbrev pub parts_of : Element → Option Elements
parts_of null = none
parts_of (truth b) = none
parts_of (whole z) = none
parts_of (single n) = none
parts_of (double n) = none
parts_of (text d) = none
parts_of (octets d) = none
parts_of (typed t d) = none
parts_of (list es) = some es
parts_of (table fs) = none

abbrev pub is_table : Element → Bool
is_table null = false
is_table (truth b) = false
is_table (whole z) = false
is_table (single n) = false
is_table (double n) = false
is_table (text d) = false
is_table (octets d) = false
is_table (typed t d) = false
is_table (list es) = false
is_table (table fs) = true

-- the numbers from 0 to hi that the parts of an array are
unfoldable pub naturals_in : ℕ → Elements → Option (List ℕ)
naturals_in hi no_more = some []
naturals_in hi (more e es) = on_some (natural_in hi (number_of e)) (λ n. on_some (naturals_in hi es) (λ ns. some (n ∷ ns)))

abbrev pub octets_in : Elements → Option (List ℕ)
octets_in es = naturals_in 255 es

-- the arrays of at most so many bytes that they are
abbrev pub piece_in : ℕ → Element → Option (List ℕ)
piece_in most e = on_some (parts_of e) (λ es. on_some (octets_in es) (λ d. either (leb (length d) most) (λ _. some d) (λ _. none)))

unfoldable pub pieces_in : ℕ → Elements → Option (List (List ℕ))
pieces_in most no_more = some []
pieces_in most (more e es) = on_some (piece_in most e) (λ d. on_some (pieces_in most es) (λ ds. some (d ∷ ds)))

-- the reals that they are
unfoldable pub reals_in : Elements → Option (List Float)
reals_in no_more = some []
reals_in (more e es) = on_some (real_in (number_of e)) (λ x. on_some (reals_in es) (λ xs. some (x ∷ xs)))

-- three of them, and no fewer or more
abbrev pub three_of : List Float → Option Value
three_of [] = none
three_of (x ∷ []) = none
three_of (x ∷ (y ∷ [])) = none
three_of (x ∷ (y ∷ (z ∷ []))) = some (Value.position x y z)
three_of (x ∷ (y ∷ (z ∷ (w ∷ rest)))) = none

-- no more numbers, or arrays and bytes in them, than so many
abbrev pub counts_sized : ℕ → List ℕ → Option Value
counts_sized many ns = when (leb (length ns) many) (Value.counts ns)

abbrev pub strings_sized : ℕ → ℕ → List (List ℕ) → Option Value
strings_sized many all ds = when (leb (length ds) many && leb (length (strung ds)) all) (Value.strings ds)

-- so many to so many bytes
abbrev pub string_sized : ℕ → ℕ → List ℕ → Option Value
string_sized lo hi d = when (leb lo (length d) && leb (length d) hi) (Value.string d)

unfoldable pub judge : Kind → Element → Option Value
judge (Kind.wholes lo hi) e = whole_in lo hi (number_of e)
judge Kind.reals e = on_some (real_in (number_of e)) (λ x. some (Value.figure x))
judge Kind.singles e = on_some (real_in (number_of e)) (λ x. when (fits binary32 x) (Value.figure x))
judge Kind.flags e = on_some (truth_of e) (λ b. some (Value.mark b))
judge Kind.positions e = on_some (parts_of e) (λ es. on_some (reals_in es) three_of)
judge (Kind.arrays lo hi) e = on_some (parts_of e) (λ es. on_some (octets_in es) (string_sized lo hi))
judge (Kind.counters many) e = on_some (parts_of e) (λ es. on_some (naturals_in 0xFFFFFFFF es) (counts_sized many))
judge (Kind.pieces many most all) e = on_some (parts_of e) (λ es. on_some (pieces_in most es) (strings_sized many all))
judge (Kind.texts lo hi) e = on_some (text_of e) (string_sized lo hi)
judge Kind.versions e = on_some (text_of e) version_of
judge Kind.words e = on_some (text_of e) (λ d. some Value.nothing)
judge Kind.maps e = when (is_table e) Value.nothing
