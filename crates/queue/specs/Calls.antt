-- Document 02, Q-2: what each call on a queue answers, and the lent memory afterwards.
use Rattle.std.specs.Prelude.{ℕ, ◌+◌, ◌*◌, Bool, Option, Some, None, Result, Ok, Err}
use mathlib.Core.{List.List, List.[], List.◌∷◌}
use lib.{Dec.eqb, ListN.length, ListN.take, ListN.get_or}
use Rattle.refusal.specs.{Number.number_of, declared.Refusal.Refusal}
use Rattle.refusal.specs.declared.Refusal.TheVariants.{Invalid, QueueIdThere, QueueFull, NoQueueId, NothingSuitable}
use Rattle.octets.specs.{Choice.either, Bytes.put_at, Pieces.pieces_place, Pieces.lengths_lent, Pieces.sum_of}
use Rattle.record.specs.{declared.DlDataQue.DlDataQue, declared.Body.Body, declared.Message.Message, Fits.fits}
use Rattle.layout.specs.Image.{message_size, message_image}
use Rattle.queue.specs.declared.Chosen.{Chosen}
use Rattle.queue.specs.Entry.{piece_for}
use Rattle.queue.specs.Queue.{on_place, place_of_id, free_place, chosen}
use Rattle.queue.specs.Store.{slot_size, store_size, command_place, queue_at}

-- an answer, and the store afterwards
pub record Queued (A : Type 0) : Type 0 where
  pub answer : Result A Refusal
  pub store : List ℕ

abbrev pub queued : {A : Type 0} → Result A Refusal → List ℕ → Queued A
queued a q = record { answer = a; store = q }

-- the number that document 02 gives a refusal; 0 where nothing is refused
abbrev pub refusal_in : {A : Type 0} → Result A Refusal → ℕ
refusal_in (Ok x) = 0
refusal_in (Err r) = number_of r

-- where a call is refused the store stays
abbrev pub refuses : {A : Type 0} → Refusal → List ℕ → Queued A
refuses r q = queued (Err r) q

-- an entry's place, where a data entry stands behind the record, and how long it is
abbrev pub shown_at : ℕ → ℕ → List ℕ → Chosen
shown_at i j ns = record { place = i; from = pieces_place + sum_of (take j ns); size = get_or ns j 0 }

-- a store of another length is 15 before all others
abbrev pub on_store : {A : Type 0} → List ℕ → (Unit {0} → Queued A) → Queued A
on_store q f = either (eqb (length q) store_size) f (λ _. refuses Invalid q)

-- the record at the start of its place, and behind it as many of the bytes lent as it says
abbrev pub lent_length : DlDataQue → List ℕ → ℕ
lent_length x d = pieces_place + sum_of (lengths_lent x.entries d)

abbrev pub stored_at : List ℕ → ℕ → Message → DlDataQue → List ℕ → List ℕ
stored_at q i m x d = put_at (put_at q (slot_size * i) (message_image m)) (slot_size * i + message_size) (take (lent_length x d) d)

-- a place is made free by its command alone: what stood there still stands
abbrev pub freed_at : List ℕ → ℕ → List ℕ
freed_at q i = put_at q (slot_size * i + command_place) (0 ∷ [])

-- 27 queue ID there, then 28 exactly if all are used
abbrev pub adds_at : List ℕ → Message → DlDataQue → List ℕ → Queued ℕ
adds_at q m x d =
    on_place (place_of_id x.que_id (queue_at q)) (λ _. refuses QueueIdThere q)
    (on_place (free_place (queue_at q)) (λ i. queued (Ok i) (stored_at q i m x d)) (refuses QueueFull q))

-- 15: a record of another command, or one that may not be written
abbrev pub downlink_in : Body → Option DlDataQue
downlink_in (Body.Con x) = None
downlink_in (Body.ConRsp x) = None
downlink_in (Body.StatusRsp x) = None
downlink_in (Body.Det x) = None
downlink_in (Body.DetRsp sign) = None
downlink_in (Body.AttPrp x) = None
downlink_in (Body.DetPrp eui) = None
downlink_in (Body.UlData x) = None
downlink_in (Body.DlDataQue x) = Some x
downlink_in (Body.Bare c) = None

unfoldable pub adds : List ℕ → Message → List ℕ → Queued ℕ
adds q m d =
    on_store q (λ _. on_place (downlink_in m.body) (λ x. either (fits m d) (λ _. adds_at q m x d) (λ _. refuses Invalid q)) (refuses Invalid q))

-- 29 cancel of an unknown ID
unfoldable pub cancels : List ℕ → ℕ → Queued ℕ
cancels q id = on_store q (λ _. on_place (place_of_id id (queue_at q)) (λ i. queued (Ok i) (freed_at q i)) (refuses NoQueueId q))

-- 30 nothing suitable; what is chosen is removed, and its data still stand where the answer says
unfoldable pub chooses : List ℕ → ℕ → ℕ → Bool → Queued Chosen
chooses q eui k expected =
    on_store q
    (λ _. on_place (chosen eui k expected (queue_at q))
    (λ f. queued (Ok (shown_at f.place (piece_for k f.entry) f.entry.lengths)) (freed_at q f.place))
    (refuses NothingSuitable q))
