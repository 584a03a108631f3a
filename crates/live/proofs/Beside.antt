-- A station's session at the live host beside the same played again, in which the centre started nothing: alike while the connection stands, and alike to what
-- a lost connection leaves of the second while the first is lost. A lost connection, an operation that the centre starts and a message that arrives keep this.
-- Assumes nothing.
use mathlib.Core.Path.{◌≡◌, refl, sym, ap, ◌∙◌}
use mathlib.Core.Bool.{Bool, true, false}
use mathlib.Core.List.{List}
use Prim.Native.Nat.{ℕ}
use Rattle.octets.specs.Choice.{either}
use Rattle.octets.proofs.Ranges.{true_false}
use Rattle.record.specs.declared.{UlData.UlData, Body.Body, Message.Message}
use Rattle.record.specs.Fits.{fits}
use Rattle.session.specs.{Session.Session, Arrive.Outcome, Arrive.con_in, Arrive.arrives, Centre.lost, Image.session_at}
use Rattle.steps.specs.Called.{step_refusal, Called, host_of, arrive_on, begin_on, lost_session}
use Rattle.play.specs.Play.{Lends}
use Rattle.live.specs.Live.{Lawful, con_names}
use Rattle.live.proofs.Alike.{plain, Alike, Quiet, arrives_alike, same_refusal, lost_alike, lost_lost}
use Rattle.live.proofs.Taken.{Ready, Idle, Makes, arrive_makes, arrive_idle, lost_ready, lost_session_lem, lost_idle, begin_leaves}

-- d at the live host, e played again
pub record Beside (down : Bool) (d e : List ℕ) : Type 0 where
  pub live : Ready d
  pub again : Idle e
  pub alike : Alike (session_at d) (either down (λ _. lost (session_at e)) (λ _. session_at e))

lost_twice : (down : Bool) (s t : Session) → Alike s (either down (λ _. lost t) (λ _. t)) → Alike (lost s) (lost t)
lost_twice true s t a = lost_alike s (lost t) a ∙ ap plain (lost_lost t)
lost_twice false s t a = lost_alike s t a

module _ (down : Bool) (d e : List ℕ) (b : Beside down d e) where
  lost_so : Alike (session_at (lost_session d)) (lost (session_at e))
  lost_so = ap plain (lost_session_lem d b.live) ∙ lost_twice down (session_at d) (session_at e) b.alike

  -- a connection is lost at the live host
  pub loss_beside : Beside true (lost_session d) e
  loss_beside = record { live = lost_ready d b.live; again = b.again; alike = lost_so }

  -- at both
  both_lost : Beside false (lost_session d) (lost_session e)
  both_lost = record {
    live = lost_ready d b.live;
    again = lost_idle e b.again.ready b.again.quiet;
    alike = lost_so ∙ ap plain (sym (lost_session_lem e b.again.ready));
  }

  -- the centre starts an operation at the live host
  pub begin_beside : (m : Message) (lent room : List ℕ) → Beside down (begin_on d m lent room).session e
  begin_beside m lent room =
      let l = begin_leaves d b.live m lent room in
      record { live = l.ready; again = b.again; alike = l.alike ∙ b.alike }

-- before a con at both; no other message is taken while the connection is lost
pub before_beside : (down con : Bool) (d e : List ℕ) → (down ≡ true → con ≡ true) → Beside down d e
    → Beside false (either con (λ _. lost_session d) (λ _. d)) (either con (λ _. lost_session e) (λ _. e))
before_beside down true d e h b = both_lost down d e b
before_beside true false d e h b = true_false (sym (h refl))
before_beside false false d e h b = b

pub before_quiet : (con : Bool) (d : List ℕ) → Ready d → Quiet (session_at d) → Quiet (session_at (either con (λ _. lost_session d) (λ _. d)))
before_quiet true d r q = (lost_idle d r q).quiet
before_quiet false d r q = q

-- a message arrives at both
module _ (d e : List ℕ) (b : Beside false d e) (h g : Lends) (lawful : Lawful h) (other : Lawful g) (m : Message) (lent : List ℕ) (fit : fits m lent ≡ true) where
  abbrev here : Called
  here = arrive_on d m lent h.sc_eui h.uuid h.sign h.room

  abbrev there : Called
  there = arrive_on e m lent g.sc_eui g.uuid g.sign g.room

  abbrev rule : Outcome
  rule = arrives (session_at d) m lent (host_of h.sc_eui h.uuid h.sign)

  abbrev second : Outcome
  second = arrives (session_at e) m lent (host_of g.sc_eui g.uuid g.sign)

  one : Makes (session_at d) rule here
  one = arrive_makes d b.live h lawful m lent fit

  two : Makes (session_at e) second there
  two = arrive_makes e b.again.ready g other m lent fit

  -- an uplink is accepted at both or refused at both
  pub arrive_refusal : (x : UlData) → m.body ≡ Body.UlData x → step_refusal here.answer ≡ step_refusal there.answer
  arrive_refusal x u = one.refusal ∙ same_refusal (session_at d) (session_at e) m lent _ _ b.alike x u ∙ sym two.refusal

  pub arrive_beside : (con_names (con_in m.body) ≡ true → Quiet (session_at d)) → Beside false here.session there.session
  arrive_beside q = record {
    live = one.ready;
    again = arrive_idle e b.again.ready g other m lent fit b.again.quiet;
    alike =
        ap plain one.session ∙ arrives_alike (session_at d) (session_at e) m lent _ _ b.alike q b.again.quiet ∙ ap plain (sym two.session);
  }
