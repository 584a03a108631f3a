-- How a queue lies in lent memory: 32 places of 984 bytes, each a C struct chz_message, the record and its lent bytes. A place is used exactly if its command is
-- dlDataQue, so all zeros is the empty queue.
use Rattle.std.specs.Prelude.{ℕ, zero, suc, ◌*◌, Bool, true, ◌&&◌}
use mathlib.Core.{List.List, List.[], List.◌∷◌}
use Rattle.std.specs.Prelude.{Option, Some, None}
use lib.{Dec.eqb, ListN.length, ListN.take, ListN.drop}
use Rattle.octets.specs.{Choice.either, Pieces.counters_lent, Pieces.lengths_lent, Pieces.pieces_lent}
use Rattle.names.specs.Names.{downlink}
use Rattle.record.specs.{declared.DlDataQue.DlDataQue, Fits.fits}
use Rattle.layout.specs.{Image.message_size, Taken.number_at, Taken.dl_data_que_at, Taken.message_at}
use Rattle.queue.specs.Entry.{Entry}
use Rattle.queue.specs.Queue.{Queue, are_unlike}

abbrev pub slot_size : ℕ
slot_size = 984

abbrev pub slots : ℕ
slots = 32

abbrev pub store_size : ℕ
store_size = 31488

-- the place of a slot's command, and its bytes
abbrev pub command_place : ℕ
command_place = 8

unfoldable pub slot_at : List ℕ → ℕ → List ℕ
slot_at q i = take slot_size (drop (slot_size * i) q)

abbrev pub is_used : List ℕ → Bool
is_used s = eqb (number_at s 1 command_place) downlink

-- the entry that a record and its lent bytes are
abbrev pub entry_of : DlDataQue → List ℕ → Entry
entry_of x d = record {
  asks = x;
  counters = either x.cnt_depend (λ _. counters_lent x.entries d) (λ _. []);
  lengths = lengths_lent x.entries d;
  pieces = pieces_lent x.entries d;
}

abbrev pub entry_in : List ℕ → Option Entry
entry_in s = either (is_used s) (λ _. Some (entry_of (dl_data_que_at s) (drop message_size s))) (λ _. None)

-- n places from the i-th on
unfoldable pub places_from : List ℕ → ℕ → ℕ → Queue
places_from q i zero = []
places_from q i (suc n) = entry_in (slot_at q i) ∷ places_from q (suc i) n

abbrev pub queue_at : List ℕ → Queue
queue_at q = places_from q 0 slots

-- what calls make from an empty queue: each record that stands in it may be written, and queue IDs are unique
unfoldable pub is_whole : List ℕ → Bool
is_whole s = either (is_used s) (λ _. fits (message_at s) (drop message_size s)) (λ _. true)

unfoldable pub are_whole : List ℕ → ℕ → ℕ → Bool
are_whole q i zero = true
are_whole q i (suc n) = is_whole (slot_at q i) && are_whole q (suc i) n

abbrev pub is_sound : List ℕ → Bool
is_sound q = eqb (length q) store_size && (are_whole q 0 slots && are_unlike (queue_at q))
