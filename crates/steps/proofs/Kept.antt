-- A refused call keeps the session's bytes and the room, and beside the rule's own refusal there is 20 alone. Assumes nothing.
use mathlib.Core.{Path.◌≡◌, Path.refl, List.List, Logic.◌⊎◌, Logic.inl, Logic.inr}
use mathlib.Core.Bool.{Bool, true, false, ◌&&◌}
use Prim.Native.Nat.{ℕ}
use lib.{Dec.eqb, Dec.leb, ListN.length}
use Rattle.octets.specs.{Bytes.put_at, Choice.either}
use Rattle.record.specs.declared.Message.{Message}
use Rattle.record.specs.Written.{frame_for}
use Rattle.session.specs.{Session.Session, Arrive.Outcome, Arrive.arrives, Centre.centre_begins, Centre.lost, Run.loss_of}
use Rattle.session.specs.{Image.session_image, Image.session_at, Image.is_session}
use Rattle.steps.specs.Called.{step_refusal, Called, called, refused_as, done_as, step_refuses, called_by, host_of, arrive_on, begin_on, lost_answer, lost_session}
use Rattle.refusal.specs.declared.Refusal.TheVariants as refusal
use Rattle.refusal.specs.Number.{number_of}
use Rattle.session.specs.declared.Happened.{Happened}

-- a call that keeps the session's bytes and the room if it is refused
abbrev pub Keeps : List ℕ → List ℕ → Called → Type 0
Keeps d room c = (step_refusal c.answer ≡ 0 → ⊥) → (c.session ≡ d) × (c.room ≡ room)

by_room : (d : List ℕ) (t : Session) (w : Happened) (f room : List ℕ) (b : Bool) → Keeps d room (either b (λ _. called (done_as w (length f)) (session_image t) (put_at room 0 f)) (λ _. step_refuses refusal.RoomTooShort d room))
by_room d t w f room true h = absurd (h refl)
by_room d t w f room false h = (refl, refl)

pub refused_step_keeps : (d room : List ℕ) (o : Outcome) → Keeps d room (called_by d room o)
refused_step_keeps d room (Outcome.refused n) h = (refl, refl)
refused_step_keeps d room (Outcome.silent w t) h = absurd (h refl)
refused_step_keeps d room (Outcome.replies w t m e) h = by_room d t w (frame_for m e) room (leb (length (frame_for m e)) (length room)) h

on_session : (b : Bool) (d room : List ℕ) (o : Outcome) → Keeps d room (either b (λ _. called_by d room o) (λ _. step_refuses refusal.Invalid d room))
on_session true d room o = refused_step_keeps d room o
on_session false d room o = λ h. (refl, refl)

module _ (d room : List ℕ) (m : Message) (lent : List ℕ) where
  pub refused_arrival_keeps : (e : ℕ) (u g : List ℕ) → Keeps d room (arrive_on d m lent e u g room)
  unfolding arrive_on
  refused_arrival_keeps e u g =
      on_session (is_session d) d room (either (eqb (length u) 16 && eqb (length g) 4) (λ _. arrives (session_at d) m lent (host_of e u g)) (λ _. Outcome.refused refusal.Invalid))

  pub refused_begin_keeps : Keeps d room (begin_on d m lent room)
  unfolding begin_on
  refused_begin_keeps = on_session (is_session d) d room (centre_begins (session_at d) m lent)

pub refused_loss_keeps : (d : List ℕ) → (step_refusal (lost_answer d) ≡ 0 → ⊥) → lost_session d ≡ d
refused_loss_keeps d = go (is_session d)
  where
    go : (b : Bool) → (step_refusal (either b (λ _. done_as (loss_of (session_at d).state) 0) (λ _. refused_as refusal.Invalid)) ≡ 0 → ⊥)
        → either b (λ _. session_image (lost (session_at d))) (λ _. d) ≡ d
    go true h = absurd (h refl)
    go false h = refl

-- the refusal that an outcome has of itself
abbrev pub own_refusal : Outcome → ℕ
own_refusal (Outcome.refused r) = number_of r
own_refusal (Outcome.silent w t) = 0
own_refusal (Outcome.replies w t m e) = 0

-- beside the outcome's own refusal there is 20 alone
pub own_or_20 : (d room : List ℕ) (o : Outcome) → (step_refusal (called_by d room o).answer ≡ own_refusal o) ⊎ (step_refusal (called_by d room o).answer ≡ 20)
own_or_20 d room (Outcome.refused n) = inl refl
own_or_20 d room (Outcome.silent w t) = inl refl
own_or_20 d room (Outcome.replies w t m e) = go (leb (length (frame_for m e)) (length room))
  where
    go : (b : Bool) → (step_refusal (either b (λ _. called (done_as w (length (frame_for m e))) (session_image t) (put_at room 0 (frame_for m e))) (λ _. step_refuses refusal.RoomTooShort d room)).answer ≡ 0)
        ⊎ (step_refusal (either b (λ _. called (done_as w (length (frame_for m e))) (session_image t) (put_at room 0 (frame_for m e))) (λ _. step_refuses refusal.RoomTooShort d room)).answer ≡ 20)
    go true = inl refl
    go false = inr refl
