-- Runs of calls on a queue: what "added", "cancelled" and "chosen" mean in the theorems on them.
use Rattle.std.specs.Prelude.{ℕ, ◌+◌, Bool, true, false, not, ◌&&◌}
use mathlib.Core.{Path.◌≡◌, List.List, List.[], List.◌∷◌}
use Rattle.std.specs.Prelude.{Some, None}
use lib.{Dec.eqb, ListN.get_or, Ieee.binary64, Ieee.fits, Ieee.is_nan}
use Rattle.octets.specs.Choice.{either}
use Rattle.queue.specs.Entry.{Entry}
use Rattle.queue.specs.Queue.{Queue, has_id, on_place, place_of_id, free_place, chosen, entered, freed}

-- a call, refused ones among them
pub data Call : Type 0 where
  add : Entry → Call
  cancel : ℕ → Call
  choose : ℕ → ℕ → Bool → Call

-- what a call did: nothing, or something with an entry of this queue ID
pub data Did : Type 0 where
  nothing : Did
  added removed taken : ℕ → Did

abbrev pub is_done : Did → Bool
is_done Did.nothing = false
is_done (Did.added id) = true
is_done (Did.removed id) = true
is_done (Did.taken id) = true

pub record Stepped : Type 0 where
  pub did : Did
  pub queue : Queue

abbrev pub stepped : Did → Queue → Stepped
stepped x q = record { did = x; queue = q }

unfoldable pub step : Queue → Call → Stepped
step q (Call.add e) =
    on_place (place_of_id e.asks.que_id q) (λ _. stepped Did.nothing q)
    (on_place (free_place q) (λ i. stepped (Did.added e.asks.que_id) (entered q i e)) (stepped Did.nothing q))
step q (Call.cancel id) = on_place (place_of_id id q) (λ i. stepped (Did.removed id) (freed q i)) (stepped Did.nothing q)
step q (Call.choose eui k expected) =
    on_place (chosen eui k expected q) (λ f. stepped (Did.taken f.entry.asks.que_id) (freed q f.place)) (stepped Did.nothing q)

unfoldable pub after : Queue → List Call → Queue
after q [] = q
after q (c ∷ cs) = after (step q c).queue cs

-- how often an ID was added, how often it was removed or taken, and how often it was taken
abbrev pub one : Bool → ℕ
one b = either b (λ _. 1) (λ _. 0)

abbrev pub is_added : ℕ → Did → ℕ
is_added id Did.nothing = 0
is_added id (Did.added k) = one (eqb k id)
is_added id (Did.removed k) = 0
is_added id (Did.taken k) = 0

abbrev pub is_gone : ℕ → Did → ℕ
is_gone id Did.nothing = 0
is_gone id (Did.added k) = 0
is_gone id (Did.removed k) = one (eqb k id)
is_gone id (Did.taken k) = one (eqb k id)

abbrev pub is_taken : ℕ → Did → ℕ
is_taken id Did.nothing = 0
is_taken id (Did.added k) = 0
is_taken id (Did.removed k) = 0
is_taken id (Did.taken k) = one (eqb k id)

unfoldable pub tally : (Did → ℕ) → Queue → List Call → ℕ
tally f q [] = 0
tally f q (c ∷ cs) = f (step q c).did + tally f (step q c).queue cs

-- how many places have an ID
unfoldable pub count_id : ℕ → Queue → ℕ
count_id id [] = 0
count_id id (x ∷ q) = one (has_id id x) + count_id id q

-- prios that are numbers of binary64, as in each record that may be written: of a queue, and of what a run adds
abbrev pub is_real : Entry → Bool
is_real e = fits binary64 e.asks.prio && not (is_nan e.asks.prio)

abbrev pub AreReal : Queue → Type 0
AreReal q = (i : ℕ) (e : Entry) → get_or q i None ≡ Some e → is_real e ≡ true

abbrev pub adds_real : Call → Bool
adds_real (Call.add e) = is_real e
adds_real (Call.cancel id) = true
adds_real (Call.choose eui k expected) = true

unfoldable pub add_real : List Call → Bool
add_real [] = true
add_real (c ∷ cs) = adds_real c && add_real cs
