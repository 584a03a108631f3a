-- What the inner functions go by: an entry that passes a test, and places counted from the start of the store.
use Rattle.std.specs.Prelude.{ℕ, ◌+◌, ◌-◌, Bool, false, not, ◌||◌}
use mathlib.Core.{List.List}
use Rattle.std.specs.Prelude.{Option, Some, None}
use lib.{ListN.drop}
use Rattle.octets.specs.Choice.{either}
use Rattle.record.specs.{declared.DlDataQue.DlDataQue, declared.Message.Message, Fits.fits}
use Rattle.layout.specs.{Image.message_size, Taken.dl_data_que_at}
use Rattle.queue.specs.{Entry.Entry, Entry.is_among, Entry.goes_before, Queue.Queue, Queue.Found, Store.slots, Store.slot_at, Store.entry_of, Store.entry_in, Store.places_from}
use Rattle.refusal.specs.declared.Refusal.TheVariants.{Invalid}
use Rattle.queue.specs.Calls.{Queued, refuses, adds_at}

-- a free place passes no test
abbrev pub passing : (Entry → Bool) → Option Entry → Bool
passing test None = false
passing test (Some e) = test e

-- that it names a counter, if it depends on counters
abbrev pub names_counter : ℕ → Entry → Bool
names_counter k e = not e.asks.cnt_depend || is_among k e.counters

-- the entry of a slot, used or not
abbrev pub entry_at : List ℕ → Entry
entry_at s = entry_of (dl_data_que_at s) (drop message_size s)

-- the places from the i-th on, which are left where a walk comes to it
abbrev pub left : List ℕ → ℕ → Queue
left q i = places_from q i (slots - i)

-- i if it passes, else what came of those behind it
abbrev pub or_behind : Bool → ℕ → ℕ → ℕ
or_behind b i rest = either b (λ _. i) (λ _. rest)

-- the place of what is found among those from the i-th on, as a place of the store
abbrev pub found_from : ℕ → Option Found → Option ℕ
found_from i None = None
found_from i (Some f) = Some (i + f.place)

-- of the i-th place and the best behind it: the better, if both pass
abbrev pub better_than : List ℕ → ℕ → Option ℕ → ℕ
better_than q i None = i
better_than q i (Some best) = either (goes_before (entry_at (slot_at q best)) (entry_at (slot_at q i))) (λ _. best) (λ _. i)

unfoldable pub better_of : (Entry → Bool) → List ℕ → ℕ → Option ℕ → Option ℕ
better_of test q i best = either (passing test (entry_in (slot_at q i))) (λ _. Some (better_than q i best)) (λ _. best)

-- what adding a downlink answers
abbrev pub adds_fit : List ℕ → Message → DlDataQue → List ℕ → Queued ℕ
adds_fit q m x d = either (fits m d) (λ _. adds_at q m x d) (λ _. refuses Invalid q)
