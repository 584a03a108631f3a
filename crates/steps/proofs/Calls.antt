-- What a call leaves, branch by branch: refused, silent, with its frame in the room, or with no place for it. Assumes nothing.
use mathlib.Core.Path.{◌≡◌, refl, sym, ap, ◌∙◌}
use mathlib.Core.{Bool.Bool, Bool.true, Bool.false, List.List}
use Prim.Native.Nat.{ℕ}
use native.Mathlib.Omega.{arith}
use lib.{Dec.leb, ListN.length}
use Rattle.octets.specs.{Bytes.put_at, Choice.either}
use Rattle.record.specs.declared.Message.{Message}
use Rattle.record.specs.Written.{frame_for}
use Rattle.writer.specs.Write.{Sent, sent, framed}
use Rattle.session.specs.{Session.Session, Arrive.Outcome, Image.session_image}
use Rattle.steps.specs.Called.{Answer, Called, called, refused_as, done_as, step_refuses, sends, called_by}
use Rattle.std.specs.Prelude.{Ok, Err, IsErr, IsErrAnd}
use Rattle.refusal.specs.declared.Refusal.{Refusal}
use Rattle.refusal.specs.declared.Refusal.TheVariants as refusal
use Rattle.session.specs.declared.Happened.{Happened}

same_called : (a b : Answer) (d e room after : List ℕ) → a ≡ b → d ≡ e → room ≡ after → ◌≡◌ {A = Called} (called a d room) (called b e after)
same_called a b d e room after p q r i = record { answer = p i; session = q i; room = r i }

-- a call that is another's by their outcomes
pub by_outcome : (d room : List ℕ) (x : Called) (o p : Outcome) → x ≡ called_by d room o → p ≡ o → x ≡ called_by d room p
by_outcome d room x o p e f = e ∙ ap (called_by d room) (sym f)

-- what `?` hands on of a refusal
abbrev pub HandsOn : Answer → Refusal → Type 0
HandsOn r k = IsErr r × IsErrAnd r (λ y. y ≡ k)

handed_on : (r : Answer) (k : Refusal) → HandsOn r k → r ≡ refused_as k
handed_on (Ok a) k h = absurd h.1
handed_on (Err y) k h = ap refused_as h.1

-- a frame that the writer put into the room, or found no place for
module _ (d room f after : List ℕ) (w : Happened) (t : Session) where
  put_whole : (n : ℕ) → ◌≡◌ {A = Sent} (sent (Ok n) after) (framed f room) → (i : List ℕ) → i ≡ session_image t → ◌≡◌ {A = Called} (called (done_as w n) i after) (sends w d t f room)
  unfolding framed
  put_whole n e i s = go (leb (length f) (length room)) e
    where
      go : (b : Bool) → ◌≡◌ {A = Sent} (sent (Ok n) after) (either b (λ _. sent (Ok (length f)) (put_at room 0 f)) (λ _. sent (Err refusal.RoomTooShort) room))
          → ◌≡◌ {A = Called} (called (done_as w n) i after) (either b (λ _. called (done_as w (length f)) (session_image t) (put_at room 0 f)) (λ _. step_refuses refusal.RoomTooShort d room))
      go true u = let l : n ≡ length f = cc (ap (λ (y : Sent). y.answer) u) in same_called (done_as w n) (done_as w (length f)) i (session_image t) after (put_at room 0 f) (ap (done_as w) l) s (ap (λ (y : Sent). y.room) u)
      go false u = let z : ◌≡◌ {A = ℕ} 0 1 = cc (ap (λ (y : Sent). y.answer) u) in absurd (omega arith)

  put_refused : (k : Refusal) → ◌≡◌ {A = Sent} (sent (Err k) after) (framed f room) → ◌≡◌ {A = Called} (called (refused_as k) d after) (sends w d t f room)
  unfolding framed
  put_refused k e = go (leb (length f) (length room)) e
    where
      go : (b : Bool) → ◌≡◌ {A = Sent} (sent (Err k) after) (either b (λ _. sent (Ok (length f)) (put_at room 0 f)) (λ _. sent (Err refusal.RoomTooShort) room))
          → ◌≡◌ {A = Called} (called (refused_as k) d after) (either b (λ _. called (done_as w (length f)) (session_image t) (put_at room 0 f)) (λ _. step_refuses refusal.RoomTooShort d room))
      go true u = let z : ◌≡◌ {A = ℕ} 0 1 = cc (ap (λ (y : Sent). y.answer) u) in absurd (omega arith)
      go false u = let l : k ≡ refusal.RoomTooShort = cc (ap (λ (y : Sent). y.answer) u) in same_called (refused_as k) (refused_as refusal.RoomTooShort) d d after room (ap refused_as l) refl (ap (λ (y : Sent). y.room) u)

module _ (d room : List ℕ) (o : Outcome) where
  pub refused_call : (r : Answer) (n : Refusal) → r ≡ refused_as n → o ≡ Outcome.refused n → ◌≡◌ {A = Called} (called r d room) (called_by d room o)
  refused_call r n e p = same_called r (refused_as n) d d room room e refl refl ∙ sym (ap (called_by d room) p)

  pub silent_call : (r : Answer) (w : Happened) (t : Session) (e : List ℕ) → r ≡ done_as w 0 → e ≡ session_image t → o ≡ Outcome.silent w t → ◌≡◌ {A = Called} (called r e room) (called_by d room o)
  silent_call r w t e p q h = same_called r (done_as w 0) e (session_image t) room room p q refl ∙ sym (ap (called_by d room) h)

  module _ (w : Happened) (t : Session) (m : Message) (l : List ℕ) (h : o ≡ Outcome.replies w t m l) (after : List ℕ) where
    pub sent_call : (n : ℕ) → ◌≡◌ {A = Sent} (sent (Ok n) after) (framed (frame_for m l) room) → (i : List ℕ) → i ≡ session_image t → ◌≡◌ {A = Called} (called (done_as w n) i after) (called_by d room o)
    sent_call n e i s = put_whole d room (frame_for m l) after w t n e i s ∙ sym (ap (called_by d room) h)

    pub unsent_call : (r : Answer) (k : Refusal) → ◌≡◌ {A = Sent} (sent (Err k) after) (framed (frame_for m l) room) → HandsOn r k → ◌≡◌ {A = Called} (called r d after) (called_by d room o)
    unsent_call r k e g = ap (λ (y : Answer). called y d after) (handed_on r k g) ∙ put_refused d room (frame_for m l) after w t k e ∙ sym (ap (called_by d room) h)
