-- Document 02, Q-2: the queue of a station, a list of places of which each is free or has an entry: add, cancel and choose.
use Rattle.std.specs.Prelude.{ℕ, suc, Bool, true, false, not, ◌&&◌}
use mathlib.Core.{List.List, List.[], List.◌∷◌}
use Rattle.std.specs.Prelude.{Option, Some, None}
use lib.{Dec.eqb, ListN.set}
use Rattle.octets.specs.Choice.{either}
use Rattle.queue.specs.Entry.{Entry, is_suitable, goes_before}

abbrev pub Queue : Type 0
Queue = List (Option Entry)

abbrev pub has_id : ℕ → Option Entry → Bool
has_id id None = false
has_id id (Some e) = eqb e.asks.que_id id

abbrev pub is_free : Option Entry → Bool
is_free None = true
is_free (Some e) = false

-- by what was found, or by nothing
abbrev pub on_place : {A B : Type 0} → Option A → (A → B) → B → B
on_place None f b = b
on_place (Some i) f b = f i

-- the first place that passes a test, if one does
abbrev pub one_on : Option ℕ → Option ℕ
one_on None = None
one_on (Some i) = Some (suc i)

unfoldable pub first_place : (Option Entry → Bool) → Queue → Option ℕ
first_place test [] = None
first_place test (x ∷ q) = either (test x) (λ _. Some 0) (λ _. one_on (first_place test q))

-- the place of a queue ID, and the lowest free place
abbrev pub place_of_id : ℕ → Queue → Option ℕ
place_of_id id q = first_place (has_id id) q

abbrev pub free_place : Queue → Option ℕ
free_place q = first_place is_free q

-- a place with its entry; of two, the one that goes before the other
pub record Found : Type 0 where
  pub place : ℕ
  pub entry : Entry

abbrev pub further : Option Found → Option Found
further None = None
further (Some f) = Some (record { place = suc f.place; entry = f.entry })

abbrev pub ahead : Entry → Option Found → Option Found
ahead e None = Some (record { place = 0; entry = e })
ahead e (Some f) = either (goes_before f.entry e) (λ _. further (Some f)) (λ _. Some (record { place = 0; entry = e }))

-- the suitable entry that goes before all others
unfoldable pub chosen_in : (Entry → Bool) → Queue → Option Found
chosen_in test [] = None
chosen_in test (None ∷ q) = further (chosen_in test q)
chosen_in test (Some e ∷ q) = either (test e) (λ _. ahead e (chosen_in test q)) (λ _. further (chosen_in test q))

abbrev pub chosen : ℕ → ℕ → Bool → Queue → Option Found
chosen eui k expected q = chosen_in (is_suitable eui k expected) q

-- an entry at a place, and a place made free
abbrev pub entered : Queue → ℕ → Entry → Queue
entered q i e = set q i (Some e)

abbrev pub freed : Queue → ℕ → Queue
freed q i = set q i None

-- no two places have the same queue ID
abbrev pub is_other : Option Entry → Option Entry → Bool
is_other None y = true
is_other (Some e) y = not (has_id e.asks.que_id y)

unfoldable pub is_unlike : Option Entry → Queue → Bool
is_unlike x [] = true
is_unlike x (y ∷ q) = is_other x y && is_unlike x q

unfoldable pub are_unlike : Queue → Bool
are_unlike [] = true
are_unlike (x ∷ q) = is_unlike x q && are_unlike q
