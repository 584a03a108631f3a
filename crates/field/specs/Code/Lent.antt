-- For the private writers: a downlink's counters and data entries put into lent bytes. No statement of a public function rests on this page.
use Rattle.std.specs.Prelude.{ℕ, ◌+◌, ◌≤◌, length}
use mathlib.Core.{Path.◌≡◌, Bool.true, List.List, List.[], Option.Option, Option.some, Option.none}
use Rattle.octets.specs.{Bytes.put_at, Pieces.lengths_place, Pieces.lengths_of, Pieces.strung}
use Rattle.field.specs.Code.Item.{is_some, naturals_from, pieces_from}

-- a list, or nothing where there is none
abbrev pub list_in : {A : Type 0} → Option (List A) → List A
list_in none = []
list_in (some l) = l

-- n counters behind each other, and n data entries
abbrev pub counters_at : List ℕ → ℕ → ℕ → Option (List ℕ)
counters_at s n at = naturals_from 0xFFFFFFFF s n at

abbrev pub entries_at : List ℕ → ℕ → ℕ → Option (List (List ℕ))
entries_at s n at = pieces_from 245 s n at

-- they are there, and not too many
pub record AreCounters (s : List ℕ) (n at : ℕ) : Type 0 where
  pub there : is_some (counters_at s n at) ≡ true
  pub few : n ≤ 16

pub record AreEntries (s : List ℕ) (n at : ℕ) : Type 0 where
  pub there : is_some (entries_at s n at) ≡ true
  pub few : n ≤ 16
  pub small : length (strung (list_in (entries_at s n at))) ≤ 800

-- a room with the lengths of entries from the i-th place for these on, and the entries from a place on
abbrev pub entries_put : List ℕ → ℕ → ℕ → List (List ℕ) → List ℕ
entries_put room i at ds = put_at (put_at room (lengths_place + i) (lengths_of ds)) at (strung ds)
