-- Document 01, "Session": entries sit in sixteen places for each side; ID 0 is free and never matches; the lowest free place is taken, and of
-- several matching entries the lowest.
use Rattle.std.specs.Prelude.{ℕ, suc, Bool, false, not, ◌&&◌}
use mathlib.Core.{List.List, List.[], List.◌∷◌, Option.Option, Option.some, Option.none}
use lib.{Dec.eqb, IntN.ℤ, IntN.pos, IntN.negsuc, ListN.set, ListN.replicate}
use Rattle.octets.specs.Choice.{either}
use Rattle.session.specs.Session.{Entry}

abbrev pub same_id : ℤ → ℤ → Bool
same_id (pos a) (pos b) = eqb a b
same_id (pos a) (negsuc b) = false
same_id (negsuc a) (pos b) = false
same_id (negsuc a) (negsuc b) = eqb a b

abbrev pub is_free : Entry → Bool
is_free e = same_id e.id (pos 0)

abbrev pub matches : ℤ → ℕ → Entry → Bool
matches z k e = not (is_free e) && (same_id e.id z && eqb e.kind k)

-- the first place that passes a test
unfoldable pub first_from : (Entry → Bool) → ℕ → List Entry → Option ℕ
first_from f i [] = none
first_from f i (e ∷ t) = either (f e) (λ _. some i) (λ _. first_from f (suc i) t)

abbrev pub free_place : List Entry → Option ℕ
free_place t = first_from is_free 0 t

abbrev pub entry_place : ℤ → ℕ → List Entry → Option ℕ
entry_place z k t = first_from (matches z k) 0 t

abbrev pub entry : ℤ → ℕ → Entry
entry z k = record { id = z; kind = k }

abbrev pub no_entry : Entry
no_entry = entry (pos 0) 0

abbrev pub taken : List Entry → ℕ → ℤ → ℕ → List Entry
taken t i z k = set t i (entry z k)

abbrev pub freed : List Entry → ℕ → List Entry
freed t i = set t i no_entry

abbrev pub all_free : List Entry
all_free = replicate 16 no_entry

-- how many entries are open
abbrev pub open_in : List Entry → ℕ
open_in [] = 0
open_in (e ∷ t) = either (is_free e) (λ _. open_in t) (λ _. suc (open_in t))
