-- What the calls on sessions answer, and what the lent bytes hold afterwards: a refused call changes nothing.
use Rattle.std.specs.Prelude.{ℕ, List}
use lib.{Dec.eqb, ListN.length}
use Rattle.octets.specs.Choice.{either}
use Rattle.steps.specs.Called.{Answer, Called, step_refusal, step_happened, step_length, arrive_on, begin_on}
use Rattle.layout.specs.{Image.message_size, Taken.message_at}
use Rattle.chozukpima.specs.Packed.{packed, refused_with}

abbrev pub step_answer : Answer → ℕ
step_answer a = packed (step_refusal a) (step_happened a) (step_length a)

-- an answer, and the session's bytes and the room afterwards
pub record Returned : Type 0 where
  pub answer : ℕ
  pub session : List ℕ
  pub room : List ℕ

abbrev pub returned : ℕ → List ℕ → List ℕ → Returned
returned n d room = record { answer = n; session = d; room = room }

-- a message of another length is 15 before all others
abbrev pub on_message : List ℕ → List ℕ → List ℕ → Called → Returned
on_message m d room c =
    either (eqb (length m) message_size) (λ _. returned (step_answer c.answer) c.session c.room) (λ _. returned (refused_with 15) d room)

unfoldable pub arrive_returns : List ℕ → List ℕ → List ℕ → ℕ → List ℕ → List ℕ → List ℕ → Returned
arrive_returns d m lent e u g room = on_message m d room (arrive_on d (message_at m) lent e u g room)

unfoldable pub begin_returns : List ℕ → List ℕ → List ℕ → List ℕ → Returned
begin_returns d m lent room = on_message m d room (begin_on d (message_at m) lent room)
