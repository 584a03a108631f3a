-- A message arrives: what stands before it, and the session's answer. Assumes nothing.
use mathlib.Core.{Path.◌≡◌, Path.refl, Path.sym, Path.ap, List.List}
use Prim.Native.Nat.{ℕ}
use borrow.Author.Tests.{eq-eqb, ne_eqb}
use Rattle.names.specs.Names.{bytes, commands, command_of, place_in}
use Rattle.record.specs.declared.{Body.Body, Message.Message}
use Rattle.record.specs.Record.{command_in}
use Rattle.std.specs.Prelude.{is_ok}
use Rattle.steps.specs.Called.{Answer, Called, called, arrive_on, lost_session}
use Rattle.play.specs.Play.{before_arrival, arrival, zeros, replaying}

con_first : command_of (bytes "con") ≡ 0
unfolding command_of commands place_in
con_first = refl

module _ (b : Body) (d : List ℕ) (k : ℕ) (q : k ≡ command_in b) where
  pub con_loses : k ≡ 0 → (e : List ℕ) → e ≡ lost_session d → e ≡ before_arrival b d
  unfolding before_arrival
  con_loses z e f = simp (con_first, ← q, eq-eqb k 0 z) f

  pub other_keeps : (k ≡ 0 → ⊥) → d ≡ before_arrival b d
  unfolding before_arrival
  other_keeps z = simp (con_first, ← q, ne_eqb k 0 z) refl

  -- with the test turned round
  pub con_turned : 0 ≡ k → (e : List ℕ) → e ≡ lost_session d → e ≡ before_arrival b d
  con_turned z e f = con_loses (sym z) e f

  pub other_turned : (0 ≡ k → ⊥) → d ≡ before_arrival b d
  other_turned z = other_keeps (λ n. z (sym n))

pub ruleset before = (con_loses, other_keeps, con_turned, other_turned)

module _ (d e f room lent : List ℕ) (m : Message) (a : Answer) (q : e ≡ before_arrival m.body d) (h : called a f room ≡ arrive_on e m lent 0 (zeros 16) (zeros 4) (zeros 1909)) where
  as_arrival : called a f room ≡ arrival replaying d m lent
  unfolding arrival
  as_arrival = rw q at h

  pub arrival_session : f ≡ (arrival replaying d m lent).session
  arrival_session = ap (λ (x : Called). x.session) as_arrival

  pub arrival_accepted : is_ok a ≡ is_ok (arrival replaying d m lent).answer
  arrival_accepted = ap (λ (x : Called). is_ok x.answer) as_arrival

pub ruleset arriving = (arrival_session, arrival_accepted)
