-- After a con that does not resume nothing of the former session is left: the answer is the same whatever it was. Assumes nothing.
use mathlib.Core.{Path.◌≡◌, Path.refl, Path.ap, Bool.false, List.List, Option.Option, Option.some, Option.none}
use Prim.Native.Nat.{ℕ}
use Rattle.octets.specs.Choice.{either}
use Rattle.record.specs.declared.{Con.Con, Message.Message}
use Rattle.record.specs.Fits.{fits}
use Rattle.session.specs.{Session.Session, Session.Host, Session.State.Waiting}
use Rattle.session.specs.Arrive.{Outcome, resumes, con_in, or_outcome, takes_con, in_waiting, arrives}
use Rattle.refusal.specs.declared.Refusal.TheVariants as refusal

-- a record that does not resume the session
abbrev pub Anew : Session → Message → Type 0
Anew s m = (x : Con) → con_in m.body ≡ some x → resumes s x ≡ false

module _ (s t : Session) (m : Message) (d : List ℕ) (h : Host) (p : Anew s m) (q : Anew t m) where
  same : (c : Option Con) → con_in m.body ≡ c
      → or_outcome c (λ x. takes_con s m.op_id x h) (λ _. Outcome.refused refusal.State) ≡ or_outcome c (λ x. takes_con t m.op_id x h) (λ _. Outcome.refused refusal.State)
  same none e = refl
  same (some x) e = rw (p x e, q x e)

  pub nothing_left : s.state ≡ Waiting → t.state ≡ Waiting → arrives s m d h ≡ arrives t m d h
  unfolding arrives in_waiting
  nothing_left a b = rw (a, b) (ap (λ (o : Outcome). either (fits m d) (λ _. o) (λ _. Outcome.refused refusal.Invalid)) (same (con_in m.body) refl))
