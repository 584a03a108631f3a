-- Document 02, Q-2: what an entry of the downlink queue holds, which entry is suitable, and which goes before which.
use Rattle.std.specs.Prelude.{ℕ, suc, Bool, false, not, ◌&&◌, ◌||◌, List, [], ◌∷◌}
use lib.{Dec.eqb, Dec.ltb, ListN.get_or}
use Rattle.std.specs.Float.Ieee.{lt, eq}
use Rattle.octets.specs.Choice.{either}
use Rattle.record.specs.declared.DlDataQue.{DlDataQue}

-- a dlDataQue with its counters, none where it isn't counter dependent, and its data entries with their lengths
pub record Entry : Type 0 where
  pub asks : DlDataQue
  pub counters : List ℕ
  pub lengths : List ℕ
  pub pieces : List (List ℕ)

-- the first place of a counter among counters; one past the last where it is none of them
unfoldable pub place_of : ℕ → List ℕ → ℕ
place_of k [] = 0
place_of k (c ∷ cs) = either (eqb c k) (λ _. 0) (λ _. suc (place_of k cs))

unfoldable pub is_among : ℕ → List ℕ → Bool
is_among k [] = false
is_among k (c ∷ cs) = eqb c k || is_among k cs

-- an absent expOnly is false
abbrev pub is_only : Entry → Bool
is_only e = e.asks.exp_only.here && e.asks.exp_only.value

-- an entry for that EUI which isn't counter dependent or names that counter, and isn't expOnly unless the flag is set
abbrev pub is_suitable : ℕ → ℕ → Bool → Entry → Bool
is_suitable eui k expected e =
    eqb e.asks.ep_eui eui && ((not e.asks.cnt_depend || is_among k e.counters) && (not (is_only e) || expected))

-- the highest prio, as numbers, then the smallest queue ID
abbrev pub goes_before : Entry → Entry → Bool
goes_before a b =
    lt b.asks.prio a.asks.prio || (eq a.asks.prio b.asks.prio && ltb a.asks.que_id b.asks.que_id)

-- the place of its data for that counter, the first where it repeats, or of its only data
abbrev pub piece_for : ℕ → Entry → ℕ
piece_for k e = either e.asks.cnt_depend (λ _. place_of k e.counters) (λ _. 0)

abbrev pub data_for : ℕ → Entry → List ℕ
data_for k e = get_or e.pieces (piece_for k e) []
