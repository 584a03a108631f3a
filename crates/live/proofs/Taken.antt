-- What `arrive` leaves of a session's bytes where the host lends what it must: the reply has room, so the call's refusal is the rule's own, and the
-- session in the bytes afterwards is the rule's. So also after a lost connection; and what the centre starts, with whatever room, leaves a session that is
-- alike. Where the centre started nothing, it has started nothing after an arrival and a lost connection. Assumes nothing.
use mathlib.Core.Path.{◌≡◌, refl, sym, ap, subst, ◌∙◌}
use mathlib.Core.Bool.{Bool, true, false}
use mathlib.Core.List.{List}
use Prim.Native.Nat.{ℕ, ◌+◌, ◌≤◌}
use native.Mathlib.Omega.{arith}
use lib.{Dec.leb, ListN.length, ListN.length-append}
use borrow.Author.Tests.{eq-eqb, le-leb}
use Rattle.octets.specs.{Bytes.IsBytes, Bytes.little_bytes, Bytes.put_at, Choice.either}
use Rattle.octets.proofs.Digits.{length_little}
use Rattle.frame.specs.Frame.{identifier}
use Rattle.saying.specs.Written.{frame_of}
use Rattle.record.specs.declared.Message.{Message}
use Rattle.record.specs.{Fits.fits, Written.payload_for, Written.frame_for}
use Rattle.record.proofs.Payloads.{payload_short}
use Rattle.session.specs.{Session.Session, Session.Host, Arrive.Outcome, Arrive.arrives, Centre.centre_begins, Centre.lost, Run.reached}
use Rattle.session.specs.Image.{session_image, session_at, is_session}
use Rattle.session.proofs.{Image.tested, Back.Held, Back.session_is, Back.session_back, Judged.id_fits}
use Rattle.session.proofs.Holding.{Holds, held_in, arrival_held, begin_held, loss_held}
use Rattle.refusal.specs.declared.Refusal.TheVariants.{RoomTooShort}
use Rattle.steps.specs.Called.{step_refusal, Called, called, done_as, step_refuses, called_by, host_of, arrive_on, begin_on, lost_session}
use Rattle.steps.proofs.{Kept.own_refusal, Replying.Fitting, Replying.replies_fit}
use Rattle.play.specs.Play.{Lends}
use Rattle.live.specs.Live.{Lawful}
use Rattle.live.proofs.Alike.{plain, Alike, Quiet, arrives_quiet, begins_alike, lost_quiet}

-- bytes of a session that a program can hold
pub record Ready (d : List ℕ) : Type 0 where
  pub is : is_session d ≡ true
  pub held : Held (session_at d)

pub ready_in : (d : List ℕ) → IsBytes d → is_session d ≡ true → Ready d
ready_in d b e = record { is = e; held = held_in d b (tested d e).long }

image_ready : (t : Session) → Held t → Ready (session_image t)
image_ready t h = record { is = session_is t h; held = subst Held (sym (session_back t h)) h }

-- and in which the centre started nothing
pub record Idle (d : List ℕ) : Type 0 where
  pub ready : Ready d
  pub quiet : Quiet (session_at d)

-- a frame takes 12 bytes more than its payload
frame_long : (p : List ℕ) → length (frame_of p) ≡ 12 + length p
unfolding frame_of identifier
frame_long p = omega (arith, length-append (little_bytes 4 (length p)) p, length_little 4 (length p))

frame_short : (m : Message) (d : List ℕ) → fits m d ≡ true → length (frame_for m d) ≤ 1909
frame_short m d e = omega (arith, frame_long (payload_for m d), payload_short m d e)

-- a call with the session s, in bytes, that is refused as the rule's outcome is and leaves its session
pub record Makes (s : Session) (o : Outcome) (c : Called) : Type 0 where
  pub refusal : step_refusal c.answer ≡ own_refusal o
  pub ready : Ready c.session
  pub session : session_at c.session ≡ reached s o

-- a call with the session in d that leaves one that is alike
pub record Leaves (d : List ℕ) (c : Called) : Type 0 where
  pub ready : Ready c.session
  pub alike : Alike (session_at c.session) (session_at d)

module _ (d : List ℕ) (ready : Ready d) where
  by_rule : (room : List ℕ) → 1909 ≤ length room → (o : Outcome) → Fitting o → Holds o → Makes (session_at d) o (called_by d room o)
  by_rule room l (Outcome.refused n) f h = record { refusal = refl; ready = ready; session = refl }
  by_rule room l (Outcome.silent w t) f h = record { refusal = refl; ready = image_ready t h; session = session_back t h }
  by_rule room l (Outcome.replies w t m e) fit h =
      let f = frame_for m e in
      let sent = called (done_as w (length f)) (session_image t) (put_at room 0 f) in
      subst (λ (b : Bool). Makes (session_at d) (Outcome.replies w t m e) (either b (λ _. sent) (λ _. step_refuses RoomTooShort d room)))
      (sym (le-leb (length f) (length room) (omega (arith, frame_short m e fit))))
      (record { refusal = refl; ready = image_ready t h; session = session_back t h })

  module _ (h : Lends) (lawful : Lawful h) (m : Message) (lent : List ℕ) (fit : fits m lent ≡ true) where
    abbrev host : Host
    host = host_of h.sc_eui h.uuid h.sign

    arrive_is : arrive_on d m lent h.sc_eui h.uuid h.sign h.room ≡ called_by d h.room (arrives (session_at d) m lent host)
    unfolding arrive_on
    arrive_is = simp (ready.is, eq-eqb (length h.uuid) 16 lawful.uuid, eq-eqb (length h.sign) 4 lawful.sign)

    pub arrive_makes : Makes (session_at d) (arrives (session_at d) m lent host) (arrive_on d m lent h.sc_eui h.uuid h.sign h.room)
    arrive_makes =
        subst (Makes (session_at d) (arrives (session_at d) m lent host)) (sym arrive_is)
        (by_rule h.room lawful.room (arrives (session_at d) m lent host)
        (replies_fit (session_at d) m host (record { id = id_fits m lent fit; eui = lawful.sc_eui }) lent)
        (arrival_held (session_at d) ready.held m lent host lawful.uuid))

  -- a lost connection
  lost_is : lost_session d ≡ session_image (lost (session_at d))
  lost_is = simp ready.is

  pub lost_ready : Ready (lost_session d)
  lost_ready = subst Ready (sym lost_is) (image_ready (lost (session_at d)) (loss_held (session_at d) ready.held))

  pub lost_session_lem : session_at (lost_session d) ≡ lost (session_at d)
  lost_session_lem = ap session_at lost_is ∙ session_back (lost (session_at d)) (loss_held (session_at d) ready.held)

  -- where the centre started nothing
  pub lost_idle : Quiet (session_at d) → Idle (lost_session d)
  lost_idle q = record { ready = lost_ready; quiet = subst Quiet (sym lost_session_lem) (lost_quiet (session_at d) q) }

  pub arrive_idle : (h : Lends) → Lawful h → (m : Message) (lent : List ℕ) → fits m lent ≡ true → Quiet (session_at d)
      → Idle (arrive_on d m lent h.sc_eui h.uuid h.sign h.room).session
  arrive_idle h lawful m lent fit q =
      let made = arrive_makes h lawful m lent fit in
      record { ready = made.ready; quiet = subst Quiet (sym made.session) (arrives_quiet (session_at d) m lent (host_of h.sc_eui h.uuid h.sign) q) }

  -- what the centre starts
  leaves_by : (room : List ℕ) (o : Outcome) → Holds o → Alike (reached (session_at d) o) (session_at d) → Leaves d (called_by d room o)
  leaves_by room (Outcome.refused n) h a = record { ready = ready; alike = refl }
  leaves_by room (Outcome.silent w t) h a = record { ready = image_ready t h; alike = ap plain (session_back t h) ∙ a }
  leaves_by room (Outcome.replies w t m e) h a = go (leb (length (frame_for m e)) (length room))
    where
      go : (b : Bool) → Leaves d (either b (λ _. called (done_as w (length (frame_for m e))) (session_image t) (put_at room 0 (frame_for m e))) (λ _. step_refuses RoomTooShort d room))
      go true = record { ready = image_ready t h; alike = ap plain (session_back t h) ∙ a }
      go false = record { ready = ready; alike = refl }

  module _ (m : Message) (lent room : List ℕ) where
    begin_is : begin_on d m lent room ≡ called_by d room (centre_begins (session_at d) m lent)
    unfolding begin_on
    begin_is = simp ready.is

    pub begin_leaves : Leaves d (begin_on d m lent room)
    begin_leaves =
        subst (Leaves d) (sym begin_is)
        (leaves_by room (centre_begins (session_at d) m lent) (begin_held (session_at d) ready.held m lent) (begins_alike (session_at d) m lent))
