-- What the calls on a downlink queue answer, and what its store holds afterwards. A place's number is in bits 16 to 23; of a chosen entry the length of its data
-- is in bits 24 to 31, and where they begin behind its record from 32 on.
use Rattle.std.specs.Prelude.{ℕ, ◌+◌, ◌*◌, Result, Ok, Err}
use mathlib.Core.{Bool.not, List.List}
use lib.{Dec.eqb, ListN.length}
use Rattle.refusal.specs.{Number.number_of, declared.Refusal.Refusal}
use Rattle.octets.specs.{Choice.either, Bytes.mark_byte}
use Rattle.layout.specs.{Image.message_size, Taken.message_at}
use Rattle.queue.specs.declared.Chosen.{Chosen}
use Rattle.queue.specs.{Calls.Queued, Calls.adds, Calls.cancels, Calls.chooses, Store.is_sound}
use Rattle.chozukpima.specs.{Packed.packed, Packed.refused_with, Messages.Filled, Messages.filled}

abbrev pub answered_by : {A : Type 0} → (A → ℕ) → Result A Refusal → ℕ
answered_by value (Ok x) = packed 0 0 (value x)
answered_by value (Err r) = refused_with (number_of r)

abbrev pub chosen_value : Chosen → ℕ
chosen_value c = c.place + (256 * c.size + 65536 * c.from)

abbrev pub queued_as : {A : Type 0} → (A → ℕ) → Queued A → Filled
queued_as value x = filled (answered_by value x.answer) x.store

-- a message of another length is 15
unfoldable pub add_returns : List ℕ → List ℕ → List ℕ → Filled
add_returns q m d = either (eqb (length m) message_size) (λ _. queued_as (λ i. i) (adds q (message_at m) d)) (λ _. filled (refused_with 15) q)

abbrev pub cancel_returns : List ℕ → ℕ → Filled
cancel_returns q id = queued_as (λ i. i) (cancels q id)

-- a flag that is not 0 is set
abbrev pub choose_returns : List ℕ → ℕ → ℕ → ℕ → Filled
choose_returns q eui k expected = queued_as chosen_value (chooses q eui k (not (eqb expected 0)))

abbrev pub sound_answer : List ℕ → ℕ
sound_answer q = packed 0 0 (mark_byte (is_sound q))
