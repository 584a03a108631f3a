-- Document 02, Q-3, on the calls of the header: what a host does with a payload of station k, call by call, from a session d and a table c. m and e are the message
-- and the data that it lends to `chz_read`.
use mathlib.Core.{Path.◌≡◌, List.List}
use Rattle.std.specs.Prelude.{ℕ, ◌≤◌}
use lib.{Dec.eqb, ListN.length}
use Rattle.octets.specs.Choice.{either}
use Rattle.names.specs.Names.{bytes, command_of}
use Rattle.record.specs.declared.{Body.Body, UlData.UlData}
use Rattle.record.specs.{Record.command_in, Meant.lent_size}
use Rattle.layout.specs.{Image.message_size, Taken.message_at}
use Rattle.meters.specs.Columns.{Columns, uplink_on}
use Rattle.steps.specs.Called.{lost_session}
use Rattle.chozukpima.specs.{Packed.answer_refusal, Packed.answer_happened, Packed.Tabled, Packed.credit_tabled, Messages.Got, Messages.ReadInto, Sessions.Returned, Sessions.arrive_returns}
use Rattle.play.specs.Play.{Lends, Played, played, no_reading, new_reading}

-- `chz_lost` where the message is a con
abbrev pub before_call : List ℕ → List ℕ → List ℕ
before_call m d = either (eqb (command_in (message_at m).body) (command_of (bytes "con"))) (λ _. lost_session d) (λ _. d)

-- `chz_arrive` with the message that was read
abbrev pub arrive_call : Lends → List ℕ → Got → Returned
arrive_call h d g = arrive_returns (before_call g.message d) g.message g.lent h.sc_eui h.uuid h.sign h.room

-- `chz_uplink` with the meter and the counter of a ulData
abbrev pub uplink_call : Columns → UlData → ℕ → Tabled
uplink_call c x k = credit_tabled (uplink_on c x.packet.ep_eui x.packet.packet_cnt k)

pub data Calls (h : Lends) (payload m e d : List ℕ) (c : Columns) (k : ℕ) : Played → Type 0 where
  -- `chz_read` refuses
  unread : (g : Got) → ReadInto payload m e g → (answer_refusal g.answer ≡ 0 → ⊥) → Calls h payload m e d c k (played d c no_reading)
  -- `chz_arrive` refuses
  refused : (g : Got) → ReadInto payload m e g → answer_refusal g.answer ≡ 0 → (answer_refusal (arrive_call h d g).answer ≡ 0 → ⊥)
      → Calls h payload m e d c k (played (arrive_call h d g).session c no_reading)
  -- a message other than ulData is accepted
  passed : (g : Got) → ReadInto payload m e g → answer_refusal g.answer ≡ 0 → answer_refusal (arrive_call h d g).answer ≡ 0
      → (command_in (message_at g.message).body ≡ command_of (bytes "ulData") → ⊥) → Calls h payload m e d c k (played (arrive_call h d g).session c no_reading)
  -- a ulData is accepted, and `chz_uplink` says CHZ_NEW (17), or something else
  credited : (g : Got) (x : UlData) → ReadInto payload m e g → answer_refusal g.answer ≡ 0 → answer_refusal (arrive_call h d g).answer ≡ 0
      → (message_at g.message).body ≡ Body.UlData x → answer_happened (uplink_call c x k).answer ≡ 17
      → Calls h payload m e d c k (played (arrive_call h d g).session (uplink_call c x k).columns (new_reading x.packet.ep_eui x.packet.packet_cnt))
  uncredited : (g : Got) (x : UlData) → ReadInto payload m e g → answer_refusal g.answer ≡ 0 → answer_refusal (arrive_call h d g).answer ≡ 0
      → (message_at g.message).body ≡ Body.UlData x → (answer_happened (uplink_call c x k).answer ≡ 17 → ⊥)
      → Calls h payload m e d c k (played (arrive_call h d g).session (uplink_call c x k).columns no_reading)
