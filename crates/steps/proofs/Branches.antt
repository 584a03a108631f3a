-- What each branch of the code leaves is what the rule says of the session in the bytes: the place that was found is the rule's, the ID that was handed
-- on is kept by the machine, and what was written and stored is the rule's reply and session. Assumes nothing.
use mathlib.Core.Path.{◌≡◌, sym, ap, ◌∙◌}
use mathlib.Core.{List.List, List.[], Option.Option, Option.some, Option.none}
use Prim.Native.Nat.{ℕ}
use lib.IntN.{ℤ}
use mir.Syntax.{w64}
use mir.Val.{SFits, to_z, of_z}
use mir.ValLaws.{to_z-of_z}
use Rattle.octets.specs.Choice.{either}
use Rattle.record.specs.declared.Message.{Message}
use Rattle.record.specs.{Fits.fault_in, Fits.fits, Written.frame_for}
use Rattle.writer.specs.Write.{Sent, sent, framed}
use Rattle.session.specs.{Session.Entry, Session.Session, Centre.begin_at, Image.session_image, Image.session_at}
use Rattle.session.specs.Place.{free_place, entry_place, taken, freed}
use Rattle.session.specs.Arrive.{Outcome, bare_of, rsp_of, with_station, with_centre, start_at, complete_at, respond_at}
use Rattle.steps.specs.Code.Lies.{started_by, ended_by}
use Rattle.steps.specs.Called.{Answer, Called, called, refused_as, done_as, called_by}
use Rattle.steps.proofs.Calls.{HandsOn, refused_call, silent_call, sent_call, unsent_call}
use Rattle.steps.proofs.{Tests.fault_none, Tests.fault_some}
use Rattle.std.specs.Prelude.{Ok, Err}
use Rattle.refusal.specs.declared.Refusal.{Refusal}
use Rattle.refusal.specs.declared.Refusal.TheVariants as refusal
use Rattle.session.specs.declared.Happened.TheVariants as happened

-- the entry that was found under the ID as the machine has it
module _ (k : ℕ) (z : ℤ) (g : SFits w64 z) (p : Option ℕ) where
  entry_kept : (t : List Entry) → entry_place (to_z w64 (of_z w64 z)) k t ≡ p → entry_place z k t ≡ p
  entry_kept t e = rw (to_z-of_z w64 z g) at e

-- a Cmp
module _ (d room : List ℕ) (k : ℕ) (z : ℤ) (g : SFits w64 z) where
  pub complete_none : (r : Answer) → entry_place (to_z w64 (of_z w64 z)) k (session_at d).station ≡ none → r ≡ refused_as refusal.State → ◌≡◌ {A = Called} (called r d room) (called_by d room (complete_at (session_at d) (entry_place z k (session_at d).station)))
  complete_none r h q = refused_call d room _ r refusal.State q (ap (complete_at (session_at d)) (entry_kept k z g none (session_at d).station h))

  pub complete_one : (r : Answer) (i : ℕ) → entry_place (to_z w64 (of_z w64 z)) k (session_at d).station ≡ some i → (f : List ℕ) → f ≡ session_image (with_station (session_at d) (session_at d).highest (freed (session_at d).station i)) → r ≡ done_as happened.Completed 0
      → ◌≡◌ {A = Called} (called r f room) (called_by d room (complete_at (session_at d) (entry_place z k (session_at d).station)))
  complete_one r i h f p q = silent_call d room _ r happened.Completed _ f q p (ap (complete_at (session_at d)) (entry_kept k z g (some i) (session_at d).station h))

-- a Rsp
module _ (d room : List ℕ) (start complete : ℕ) (z : ℤ) (g : SFits w64 z) where
  abbrev responds : Outcome
  responds = respond_at (session_at d) (ended_by start complete) z (entry_place z start (session_at d).centre)

  pub respond_none : (r : Answer) → entry_place (to_z w64 (of_z w64 z)) start (session_at d).centre ≡ none → r ≡ refused_as refusal.State → ◌≡◌ {A = Called} (called r d room) (called_by d room responds)
  respond_none r h q = refused_call d room _ r refusal.State q (ap (respond_at (session_at d) (ended_by start complete) z) (entry_kept start z g none (session_at d).centre h))

  module _ (i : ℕ) (h : entry_place (to_z w64 (of_z w64 z)) start (session_at d).centre ≡ some i) (m : Message) (b : m ≡ bare_of complete (to_z w64 (of_z w64 z))) (after : List ℕ) where
    abbrev ended : Session
    ended = with_centre (session_at d) (session_at d).lowest (freed (session_at d).centre i)

    responds_is : responds ≡ Outcome.replies happened.Answered ended m []
    responds_is =
        ap (respond_at (session_at d) (ended_by start complete) z) (entry_kept start z g (some i) (session_at d).centre h)
        ∙ ap (λ (y : Message). Outcome.replies happened.Answered ended y []) (sym (b ∙ ap (bare_of complete) (to_z-of_z w64 z g)))

    pub respond_unsent : (r : Answer) (k : Refusal) → ◌≡◌ {A = Sent} (sent (Err k) after) (framed (frame_for m []) room) → HandsOn r k → ◌≡◌ {A = Called} (called r d after) (called_by d room responds)
    respond_unsent r k w q = unsent_call d room _ happened.Answered ended m [] responds_is after r k w q

    pub respond_sent : (n : ℕ) → ◌≡◌ {A = Sent} (sent (Ok n) after) (framed (frame_for m []) room) → (f : List ℕ) → f ≡ session_image (with_centre (session_at d) (session_at d).lowest (freed (session_at d).centre i))
        → ◌≡◌ {A = Called} (called (done_as happened.Answered n) f after) (called_by d room responds)
    respond_sent n w f q = sent_call d room _ happened.Answered ended m [] responds_is after n w f q

-- a start of the station
module _ (d room : List ℕ) (sign start answer : ℕ) (z : ℤ) where
  abbrev starts_at : Outcome
  starts_at = start_at (session_at d) sign (started_by start answer) z (free_place (session_at d).station)

  pub start_full : (r : Answer) → free_place (session_at d).station ≡ none → r ≡ refused_as refusal.SixteenOpen → ◌≡◌ {A = Called} (called r d room) (called_by d room starts_at)
  start_full r p q = refused_call d room _ r refusal.SixteenOpen q (ap (start_at (session_at d) sign (started_by start answer) z) p)

  module _ (g : SFits w64 z) (i : ℕ) (p : free_place (session_at d).station ≡ some i) (m : Message) (b : m ≡ rsp_of sign answer (to_z w64 (of_z w64 z))) (after : List ℕ) where
    abbrev started : Session
    started = with_station (session_at d) z (taken (session_at d).station i z start)

    starts_is : starts_at ≡ Outcome.replies happened.Started started m []
    starts_is =
        ap (start_at (session_at d) sign (started_by start answer) z) p
        ∙ ap (λ (y : Message). Outcome.replies happened.Started started y []) (sym (b ∙ ap (rsp_of sign answer) (to_z-of_z w64 z g)))

    pub start_unsent : (r : Answer) (k : Refusal) → ◌≡◌ {A = Sent} (sent (Err k) after) (framed (frame_for m []) room) → HandsOn r k → ◌≡◌ {A = Called} (called r d after) (called_by d room starts_at)
    start_unsent r k w v = unsent_call d room _ happened.Started started m [] starts_is after r k w v

    pub start_sent : (n : ℕ) → ◌≡◌ {A = Sent} (sent (Ok n) after) (framed (frame_for m []) room) → (f : List ℕ) → f ≡ session_image (with_station (session_at d) (to_z w64 (of_z w64 z)) (taken (session_at d).station i (to_z w64 (of_z w64 z)) start))
        → ◌≡◌ {A = Called} (called (done_as happened.Started n) f after) (called_by d room starts_at)
    start_sent n w f v = sent_call d room _ happened.Started started m [] starts_is after n w f (rw (to_z-of_z w64 z g) at v)

-- a start of the centre
module _ (d room : List ℕ) (start : ℕ) (m : Message) (lent : List ℕ) where
  abbrev begins_at : Outcome
  begins_at = begin_at (session_at d) (started_by start 0) m.op_id m lent (free_place (session_at d).centre)

  pub issue_full : (r : Answer) → free_place (session_at d).centre ≡ none → r ≡ refused_as refusal.SixteenOpen → ◌≡◌ {A = Called} (called r d room) (called_by d room begins_at)
  issue_full r p q = refused_call d room _ r refusal.SixteenOpen q (ap (begin_at (session_at d) (started_by start 0) m.op_id m lent) p)

  module _ (i : ℕ) (p : free_place (session_at d).centre ≡ some i) (f : ℕ) (u : f ≡ fault_in m lent) where
    abbrev issued : Session
    issued = with_centre (session_at d) m.op_id (taken (session_at d).centre i m.op_id start)

    judged : begins_at ≡ either (fits m lent) (λ _. Outcome.replies happened.Issued issued m lent) (λ _. Outcome.refused refusal.Invalid)
    judged = ap (begin_at (session_at d) (started_by start 0) m.op_id m lent) p

    pub issue_unfit : (r : Answer) → (f ≡ 0 → ⊥) → r ≡ refused_as refusal.Invalid → ◌≡◌ {A = Called} (called r d room) (called_by d room begins_at)
    issue_unfit r h q = refused_call d room _ r refusal.Invalid q (judged ∙ simp (fault_some m lent f u h))

    module _ (h : f ≡ 0) (after : List ℕ) where
      issues_is : begins_at ≡ Outcome.replies happened.Issued issued m lent
      issues_is = judged ∙ simp (sym (fault_none m lent f u h))

      pub issue_unsent : (r : Answer) (k : Refusal) → ◌≡◌ {A = Sent} (sent (Err k) after) (framed (frame_for m lent) room) → HandsOn r k → ◌≡◌ {A = Called} (called r d after) (called_by d room begins_at)
      issue_unsent r k w v = unsent_call d room _ happened.Issued issued m lent issues_is after r k w v

      pub issue_sent : SFits w64 m.op_id → (n : ℕ) → ◌≡◌ {A = Sent} (sent (Ok n) after) (framed (frame_for m lent) room) → (l : List ℕ)
          → l ≡ session_image (with_centre (session_at d) (to_z w64 (of_z w64 m.op_id)) (taken (session_at d).centre i (to_z w64 (of_z w64 m.op_id)) start))
          → ◌≡◌ {A = Called} (called (done_as happened.Issued n) l after) (called_by d room begins_at)
      issue_sent g n w l v = sent_call d room _ happened.Issued issued m lent issues_is after n w l (rw (to_z-of_z w64 m.op_id g) at v)

pub ruleset branches = (complete_none, complete_one, respond_none, respond_unsent, respond_sent, start_full, start_unsent, start_sent, issue_full, issue_unfit, issue_unsent, issue_sent)
