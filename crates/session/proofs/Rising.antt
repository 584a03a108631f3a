-- The IDs of stations' starts rise, and the centre's fall, through any run, resumes and refused steps among it; only a new session begins them
-- anew. A start is accepted only above the highest ID known, which then is its ID; the centre issues the ID one below its lowest; nothing else
-- changes the two. Assumes nothing.
use mathlib.Core.{Path.◌≡◌, Path.refl, Path.subst, List.List, Option.Option, Option.some, Option.none}
use mathlib.Core.Bool.{Bool, true, false, ◌&&◌}
use Prim.Native.Nat.{ℕ, suc}
use native.Mathlib.Omega.{arith}
use lib.{Dec.T, Dec.lt→ltb, IntN.ℤ, IntN.pos, IntN.negsuc}
use borrow.Author.Tests.{le-ltb}
use Rattle.octets.specs.Choice.{either}
use Rattle.record.specs.declared.Message.{Message}
use Rattle.record.specs.{Record.four_of, Record.command_in, Fits.fits}
use Rattle.session.specs.{Session.State, Session.Session, Session.Host, Session.State.Waiting, Session.State.Connecting, Session.State.Open}
use Rattle.session.specs.{Place.same_id, Place.free_place}
use Rattle.session.specs.Kinds.{Operation, station_starts, centre_starts, operation_by}
use Rattle.session.specs.Arrive.{Outcome, is_below, highest_of, lowest_of, start_at, starts, in_open, in_state, arrives}
use Rattle.session.specs.Centre.{one_below, last_id, under_id, begin_at, kind_begins, if_open, centre_begins}
use Rattle.session.specs.Run.{Event, reached, after, if_done, while_open, if_start, accepted_in, issued_in, is_waiting, has_begun, begins_anew, Rising, Falling}
use Rattle.session.proofs.{Cases.by_test, Cases.by_result, Cases.by_choice, Moves.Moves.kept, Moves.Moves.moved, Moves.Goes.on}
use Rattle.session.proofs.Moves.{Steady, Keeps, Moves, Goes, lost_keeps, waited, connecting_keeps, ending_keeps, from_waited, ordered}
use Rattle.refusal.specs.declared.Refusal.TheVariants as refusal

highest_steady : Steady highest_of
highest_steady = record { beginning = λ h x. refl; resuming = λ s. refl; opening = λ s. refl; storing = λ s. refl; completing = λ s t. refl; responding = λ s t. refl }

lowest_steady : Steady lowest_of
lowest_steady = record { beginning = λ h x. refl; resuming = λ s. refl; opening = λ s. refl; storing = λ s. refl; completing = λ s t. refl; responding = λ s t. refl }

-- what is above the highest is above zero
above_zero : (h z : ℤ) → T (is_below (either (is_below h (pos 0)) (λ _. pos 0) (λ _. h)) z) → is_below z (pos 0) ≡ false
above_zero h (pos n) t = le-ltb n 0 (omega arith)
above_zero (pos a) (negsuc k) t = absurd (subst (λ (b : Bool). T (is_below (either b (λ _. pos 0) (λ _. pos a)) (negsuc k))) (le-ltb a 0 (omega arith)) t)
above_zero (negsuc a) (negsuc k) t = absurd t

abbrev Raises : Session → Session → Option ℤ → Type 0
Raises s t o = Moves highest_of is_below s t o

module _ (s : Session) (m : Message) (d : List ℕ) (h : Host) where
  abbrev Raised : Outcome → Type 0
  Raised o = Raises s (reached s o) (if_done o m.op_id)

  started : (o : Operation) (p : Option ℕ) → T (is_below (highest_of s) m.op_id) → Raised (start_at s (four_of h.sign) o m.op_id p)
  started o none t = kept refl
  started o (some i) t = moved m.op_id t (rw (above_zero s.highest m.op_id t))

  start_raises : (o : Operation) → Raised (starts s (four_of h.sign) o m.op_id)
  start_raises o = by_result Raised (is_below (highest_of s) m.op_id) _ _ (λ e. started o (free_place s.station) (rw e tt)) (λ e. kept refl)

  open_raises : (p : Option Operation) → operation_by (λ o. o.start) station_starts (command_in m.body) ≡ p → Raises s (reached s (in_open s (four_of h.sign) (command_in m.body) m.op_id)) (if_start p (if_done (in_open s (four_of h.sign) (command_in m.body) m.op_id) m.op_id))
  unfolding in_open
  open_raises none e =
      rw e (kept (ending_keeps highest_of highest_steady s m.op_id (operation_by (λ o. o.cmp) station_starts (command_in m.body)) (operation_by (λ o. o.rsp) centre_starts (command_in m.body))))
  open_raises (some o) e = rw e (start_raises o)

  unfit : (x : State) (o : Option Operation) → while_open x (if_start o none) ≡ none
  unfit Waiting o = refl
  unfit Connecting o = refl
  unfit Open none = refl
  unfit Open (some o) = refl

  abbrev judged : State → Bool → Outcome
  judged x b = either b (λ _. in_state x s m h) (λ _. Outcome.refused refusal.Invalid)

  abbrev accepted : State → Bool → Option ℤ
  accepted x b = while_open x (if_start (operation_by (λ o. o.start) station_starts (command_in m.body)) (if_done (judged x b) m.op_id))

  connecting_raises : (b : Bool) → Raises s (reached s (judged Connecting b)) none
  connecting_raises true = kept (connecting_keeps highest_of highest_steady s (command_in m.body) m.op_id)
  connecting_raises false = kept refl

  opened_raises : (b : Bool) → Raises s (reached s (judged Open b)) (accepted Open b)
  opened_raises true = open_raises (operation_by (λ o. o.start) station_starts (command_in m.body)) refl
  opened_raises false = rw (unfit Open (operation_by (λ o. o.start) station_starts (command_in m.body))) (kept refl)

  state_raises : (x : State) → Goes highest_of is_below s (reached s (judged x (fits m d))) (is_waiting x && has_begun (judged x (fits m d))) (accepted x (fits m d))
  state_raises Waiting = from_waited highest_of is_below highest_steady s (judged Waiting (fits m d)) (waited highest_of highest_steady s m d h)
  state_raises Connecting = on none (connecting_raises (fits m d))
  state_raises Open = on (accepted Open (fits m d)) (opened_raises (fits m d))

  arrival_raises : Goes highest_of is_below s (after s (Event.arrival m d h)) (begins_anew s (Event.arrival m d h)) (accepted_in s (Event.arrival m d h))
  unfolding arrives
  arrival_raises = state_raises s.state

  -- an arrival leaves the centre's lowest
  abbrev Keeps-lowest : Outcome → Type 0
  Keeps-lowest o = Keeps lowest_of lowest_steady s o

  place_keeps : (o : Operation) (p : Option ℕ) → Keeps-lowest (start_at s (four_of h.sign) o m.op_id p)
  place_keeps o none = refl
  place_keeps o (some i) = refl

  start_keeps : (o : Operation) → Keeps-lowest (starts s (four_of h.sign) o m.op_id)
  start_keeps o = by_test Keeps-lowest (is_below (highest_of s) m.op_id) _ _ (place_keeps o (free_place s.station)) refl

  open_keeps : Keeps-lowest (in_open s (four_of h.sign) (command_in m.body) m.op_id)
  unfolding in_open
  open_keeps =
      by_choice Keeps-lowest (operation_by (λ o. o.start) station_starts (command_in m.body)) _ _ start_keeps
      (ending_keeps lowest_of lowest_steady s m.op_id (operation_by (λ o. o.cmp) station_starts (command_in m.body)) (operation_by (λ o. o.rsp) centre_starts (command_in m.body)))

  connecting_lowers : Keeps-lowest (judged Connecting (fits m d))
  connecting_lowers = by_test Keeps-lowest (fits m d) _ _ (connecting_keeps lowest_of lowest_steady s (command_in m.body) m.op_id) refl

  opened_keeps : Keeps-lowest (judged Open (fits m d))
  opened_keeps = by_test Keeps-lowest (fits m d) _ _ open_keeps refl

  state_keeps : (x : State) → Goes lowest_of (λ a z. is_below z a) s (reached s (judged x (fits m d))) (is_waiting x && has_begun (judged x (fits m d))) none
  state_keeps Waiting = from_waited lowest_of (λ a z. is_below z a) lowest_steady s (judged Waiting (fits m d)) (waited lowest_of lowest_steady s m d h)
  state_keeps Connecting = on none (kept connecting_lowers)
  state_keeps Open = on none (kept opened_keeps)

  arrival_keeps : Goes lowest_of (λ a z. is_below z a) s (after s (Event.arrival m d h)) (begins_anew s (Event.arrival m d h)) none
  unfolding arrives
  arrival_keeps = state_keeps s.state

-- one below is below, and below zero
one_below_lem : (z : ℤ) → T (is_below (one_below z) z)
one_below_lem (pos n) = tt
one_below_lem (negsuc k) = lt→ltb k (suc k) (omega arith)

still_lowest : (z : ℤ) → is_below (pos 0) (one_below z) ≡ false
still_lowest (pos n) = refl
still_lowest (negsuc k) = refl

abbrev Lowers : Session → Session → Option ℤ → Type 0
Lowers s t o = Moves lowest_of (λ a z. is_below z a) s t o

module _ (s : Session) (m : Message) (d : List ℕ) where
  abbrev issued : ℤ
  issued = one_below (lowest_of s)

  abbrev Lowered : Outcome → Type 0
  Lowered o = Lowers s (reached s o) (if_done o issued)

  -- a record that is written under the ID issued, or refused
  issue_lowers : (o : Operation) (p : Option ℕ) → Lowered (begin_at s o issued (under_id issued m) d p)
  issue_lowers o none = kept refl
  issue_lowers o (some i) = by_test Lowered (fits (under_id issued m) d) _ _ (moved issued (one_below_lem (lowest_of s)) (rw (still_lowest (lowest_of s)))) (kept refl)

  centre_lowers : (x : State) → Lowered (if_open x (λ _. kind_begins s (command_in m.body) m d))
  centre_lowers Waiting = kept refl
  centre_lowers Connecting = kept refl
  centre_lowers Open =
      by_choice Lowered (operation_by (λ o. o.start) centre_starts (command_in m.body)) _ _
      (λ o. by_test Lowered (same_id (lowest_of s) last_id) _ _ (kept refl) (issue_lowers o (free_place s.centre))) (kept refl)

  -- and the highest stays
  abbrev Keeps-highest : Outcome → Type 0
  Keeps-highest o = Keeps highest_of highest_steady s o

  issue_keeps : (o : Operation) (p : Option ℕ) → Keeps-highest (begin_at s o issued (under_id issued m) d p)
  issue_keeps o none = refl
  issue_keeps o (some i) = by_test Keeps-highest (fits (under_id issued m) d) _ _ refl refl

  centre_keeps : (x : State) → Keeps-highest (if_open x (λ _. kind_begins s (command_in m.body) m d))
  centre_keeps Waiting = refl
  centre_keeps Connecting = refl
  centre_keeps Open =
      by_choice Keeps-highest (operation_by (λ o. o.start) centre_starts (command_in m.body)) _ _
      (λ o. by_test Keeps-highest (same_id (lowest_of s) last_id) _ _ refl (issue_keeps o (free_place s.centre))) refl

step_raises : (s : Session) (e : Event) → Goes highest_of is_below s (after s e) (begins_anew s e) (accepted_in s e)
unfolding centre_begins
step_raises s (Event.arrival m d h) = arrival_raises s m d h
step_raises s (Event.beginning m d) = on none (kept (centre_keeps s m d s.state))
step_raises s Event.loss = on none (kept (lost_keeps highest_of highest_steady s))

step_lowers : (s : Session) (e : Event) → Goes lowest_of (λ a z. is_below z a) s (after s e) (begins_anew s e) (issued_in s e)
unfolding centre_begins
step_lowers s (Event.arrival m d h) = arrival_keeps s m d h
step_lowers s (Event.beginning m d) = on (issued_in s (Event.beginning m d)) (centre_lowers s m d s.state)
step_lowers s Event.loss = on none (kept (lost_keeps lowest_of lowest_steady s))

-- the stations' IDs rise, from any session on, the empty one among them
pub ids_rise : (s : Session) (es : List Event) → Rising s es
ids_rise s es = ordered highest_of is_below accepted_in step_raises s es

-- the centre's fall
pub ids_fall : (s : Session) (es : List Event) → Falling s es
ids_fall s es = ordered lowest_of (λ a z. is_below z a) issued_in step_lowers s es
