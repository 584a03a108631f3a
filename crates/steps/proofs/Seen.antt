-- The session in the bytes after a call is what the rule makes of the session in the bytes before it: the rule's session can be held, so its image reads
-- back as it. Assumes nothing.
use mathlib.Core.Path.{◌≡◌, refl, sym, ◌∙◌}
use mathlib.Core.Bool.{Bool, true, false, ◌&&◌}
use mathlib.Core.List.{List}
use Prim.Native.Nat.{ℕ}
use lib.{Dec.eqb, Dec.leb, ListN.length}
use borrow.Author.Tests.{eqb-true}
use Rattle.octets.specs.{Bytes.IsBytes, Bytes.put_at, Choice.either}
use Rattle.record.specs.declared.Message.{Message}
use Rattle.record.specs.Written.{frame_for}
use Rattle.session.specs.{Session.Session, Arrive.Outcome, Arrive.arrives, Centre.centre_begins, Centre.lost}
use Rattle.session.specs.{Image.session_image, Image.session_at, Image.is_session}
use Rattle.session.specs.Run.{Event, reached, after, loss_of}
use Rattle.session.proofs.{Image.tested, Back.Held, Back.session_is, Back.session_back}
use Rattle.session.proofs.Holding.{Holds, held_in, arrival_held, begin_held, loss_held}
use Rattle.steps.specs.Called.{step_refusal, Answer, Called, called, refused_as, done_as, step_refuses, called_by, host_of, arrive_on, begin_on, lost_answer, lost_session}
use Rattle.refusal.specs.declared.Refusal.TheVariants as refusal
use Rattle.refusal.specs.Number.{number_of}
use Rattle.session.specs.declared.Happened.{Happened}

-- after a call: the session t that the rule made of s; where the call was refused, by the rule or with 20, s itself
abbrev pub unless_refused : Answer → Session → Session → Session
unless_refused r s t = either (eqb (step_refusal r) 0) (λ _. t) (λ _. s)

abbrev pub session_after : Session → Event → Answer → Session
session_after s e r = unless_refused r s (after s e)

-- the bytes after an event that was answered with r are a session's if those before it were, and their session is the step of the one before
abbrev pub Seen : List ℕ → Event → Answer → List ℕ → Type 0
Seen before e r now = (is_session now ≡ is_session before) × (session_at now ≡ session_after (session_at before) e r)

-- the same with the session that the rule made, and with an outcome of the rule
abbrev Shows : List ℕ → Session → Answer → List ℕ → Type 0
Shows before t r now = (is_session now ≡ is_session before) × (session_at now ≡ unless_refused r (session_at before) t)

abbrev ShowsOf : List ℕ → Outcome → Called → Type 0
ShowsOf d o c = Shows d (reached (session_at d) o) c.answer c.session

same_session : (b : Bool) (s : Session) → s ≡ either b (λ _. s) (λ _. s)
same_session true s = refl
same_session false s = refl

module _ (d : List ℕ) (bytes : IsBytes d) where
  held : is_session d ≡ true → Held (session_at d)
  held e = held_in d bytes (tested d e).long

  image_seen : is_session d ≡ true → (t : Session) → Held t → (is_session (session_image t) ≡ is_session d) × (session_at (session_image t) ≡ t)
  image_seen e t h = (session_is t h ∙ sym e, session_back t h)

  module _ (room : List ℕ) where
    -- a step whose message is written, or has no room
    sent_seen : (w : Happened) (t : Session) (m : Message) (l f : List ℕ) → is_session d ≡ true → Held t → (b : Bool)
        → ShowsOf d (Outcome.replies w t m l) (either b (λ _. called (done_as w (length f)) (session_image t) (put_at room 0 f)) (λ _. step_refuses refusal.RoomTooShort d room))
    sent_seen w t m l f e h true = image_seen e t h
    sent_seen w t m l f e h false = (refl, refl)

    outcome_seen : (o : Outcome) → is_session d ≡ true → Holds o → ShowsOf d o (called_by d room o)
    outcome_seen (Outcome.refused r) e h = (refl, same_session (eqb (number_of r) 0) (session_at d))
    outcome_seen (Outcome.silent w t) e h = image_seen e t h
    outcome_seen (Outcome.replies w t m l) e h = sent_seen w t m l (frame_for m l) e h (leb (length (frame_for m l)) (length room))

    module _ (m : Message) (lent : List ℕ) where
      pub arrival_seen : (e : ℕ) (u g : List ℕ) → let c = arrive_on d m lent e u g room in Seen d (Event.arrival m lent (host_of e u g)) c.answer c.session
      unfolding arrive_on
      arrival_seen e u g = go (is_session d) refl (eqb (length u) 16) refl (eqb (length g) 4)
        where
          rule : Outcome
          rule = arrives (session_at d) m lent (host_of e u g)

          go : (a : Bool) → is_session d ≡ a → (b : Bool) → eqb (length u) 16 ≡ b → (c : Bool)
              → ShowsOf d rule (either a (λ _. called_by d room (either (b && c) (λ _. rule) (λ _. Outcome.refused refusal.Invalid))) (λ _. step_refuses refusal.Invalid d room))
          go true p true q true = outcome_seen rule p (arrival_held (session_at d) (held p) m lent (host_of e u g) (eqb-true (length u) 16 q))
          go true p true q false = (refl, refl)
          go true p false q c = (refl, refl)
          go false p b q c = (refl, refl)

      pub begin_seen : let c = begin_on d m lent room in Seen d (Event.beginning m lent) c.answer c.session
      unfolding begin_on
      begin_seen = go (is_session d) refl
        where
          rule : Outcome
          rule = centre_begins (session_at d) m lent

          go : (a : Bool) → is_session d ≡ a → ShowsOf d rule (either a (λ _. called_by d room rule) (λ _. step_refuses refusal.Invalid d room))
          go true p = outcome_seen rule p (begin_held (session_at d) (held p) m lent)
          go false p = (refl, refl)

  pub loss_seen : Seen d Event.loss (lost_answer d) (lost_session d)
  loss_seen = go (is_session d) refl
    where
      go : (a : Bool) → is_session d ≡ a
          → Shows d (lost (session_at d)) (either a (λ _. done_as (loss_of (session_at d).state) 0) (λ _. refused_as refusal.Invalid)) (either a (λ _. session_image (lost (session_at d))) (λ _. d))
      go true p = image_seen p (lost (session_at d)) (loss_held (session_at d) (held p))
      go false p = (refl, refl)
