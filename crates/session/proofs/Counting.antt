-- A start that is accepted takes exactly one entry, a Cmp or Rsp frees exactly one, a new session has none, and nothing else changes how many are open:
-- of each step by its cases, of a run by induction over it. Assumes nothing.
use mathlib.Core.Path.{◌≡◌, refl, ap, ◌∙◌}
use mathlib.Core.Bool.{Bool, true, false, ◌&&◌}
use mathlib.Core.{List.List, List.[], List.◌∷◌, Option.Option, Option.some, Option.none}
use Prim.Native.Nat.{ℕ, suc, ◌-◌}
use native.Mathlib.Omega.{arith}
use lib.{Dec.eqb, IntN.ℤ, IntN.pos, IntN.negsuc}
use borrow.Author.Tests.{ltb-true, ne_eqb}
use Rattle.octets.specs.Choice.{either}
use Rattle.names.specs.Names.{bytes, command_of}
use Rattle.record.specs.declared.Message.{Message}
use Rattle.record.specs.{Record.four_of, Record.command_in, Fits.fits}
use Rattle.session.specs.{Session.State, Session.Session, Session.Host, Session.State.Waiting, Session.State.Connecting, Session.State.Open}
use Rattle.session.specs.Place.{same_id, free_place, entry_place, open_in}
use Rattle.session.specs.Kinds.{Operation, station_starts, centre_starts, operation_by}
use Rattle.session.specs.Arrive.{Outcome, is_below, highest_of, lowest_of, resumes, starts, start_at, complete_at, respond_at, in_waiting, in_connecting, in_open, in_state, arrives}
use Rattle.session.specs.Centre.{one_below, last_id, under_id, begin_at, kind_begins, if_open, centre_begins, lost_in, lost}
use Rattle.session.specs.Run.{Event, reached, after, happened_of, loss_of, happened_in, station_after, centre_after, after_all, count_all}
use Rattle.session.specs.Happened.{happened_number}
use Rattle.session.proofs.Cases.{by_test, by_result, by_choice, by_con}
use Rattle.session.proofs.Entries.{frees_one, takes_one}

-- both sides' counts, from one session to another
pub record Counted (s : Session) (w : ℕ) (t : Session) : Type 0 where
  pub station : open_in t.station ≡ station_after w (open_in s.station)
  pub centre : open_in t.centre ≡ centre_after w (open_in s.centre)

abbrev Counts : Session → Outcome → Type 0
Counts s (Outcome.refused n) = Unit {0}
Counts s (Outcome.silent w t) = Counted s (happened_number w) t
Counts s (Outcome.replies w t m d) = Counted s (happened_number w) t

-- an ID above the highest, and one below the lowest, is not 0
above : (h z : ℤ) → is_below (either (is_below h (pos 0)) (λ _. pos 0) (λ _. h)) z ≡ true → same_id z (pos 0) ≡ false
above (pos a) (pos n) e = go (is_below (pos a) (pos 0)) e
  where
    go : (b : Bool) → is_below (either b (λ _. pos 0) (λ _. pos a)) (pos n) ≡ true → eqb n 0 ≡ false
    go true e = ne_eqb n 0 (λ z. omega (arith, ltb-true 0 n e))
    go false e = ne_eqb n 0 (λ z. omega (arith, ltb-true a n e))
above (negsuc a) (pos n) e = ne_eqb n 0 (λ z. omega (arith, ltb-true 0 n e))
above h (negsuc k) e = refl

under : (z : ℤ) → same_id (one_below z) (pos 0) ≡ false
under (pos n) = refl
under (negsuc k) = refl

one_fewer : (n m : ℕ) → suc n ≡ m → n ≡ m - 1
one_fewer n m e = omega arith

module _ (s : Session) where
  counted_start : (g : ℕ) (o : Operation) (z : ℤ) (p : Option ℕ) → same_id z (pos 0) ≡ false → free_place s.station ≡ p → Counts s (start_at s g o z p)
  counted_start g o z none n e = tt
  counted_start g o z (some i) n e = record { station = takes_one s.station i z o.start n e; centre = refl }

  counted_starts : (g : ℕ) (o : Operation) (z : ℤ) → Counts s (starts s g o z)
  counted_starts g o z = by_result (Counts s) (is_below (highest_of s) z) _ _ (λ e. counted_start g o z (free_place s.station) (above s.highest z e) refl) (λ e. tt)

  counted_complete : (k : ℕ) (z : ℤ) (p : Option ℕ) → entry_place z k s.station ≡ p → Counts s (complete_at s p)
  counted_complete k z none e = tt
  counted_complete k z (some i) e = record { station = one_fewer _ _ (frees_one s.station i z k e); centre = refl }

  counted_respond : (o : Operation) (z : ℤ) (p : Option ℕ) → entry_place z o.start s.centre ≡ p → Counts s (respond_at s o z p)
  counted_respond o z none e = tt
  counted_respond o z (some i) e = record { station = refl; centre = one_fewer _ _ (frees_one s.centre i z o.start e) }

  counted_open : (g c : ℕ) (z : ℤ) → Counts s (in_open s g c z)
  unfolding in_open
  counted_open g c z =
      by_choice (Counts s) (operation_by (λ o. o.start) station_starts c) _ _ (λ o. counted_starts g o z)
      (by_choice (Counts s) (operation_by (λ o. o.cmp) station_starts c) _ _ (λ o. counted_complete o.start z (entry_place z o.start s.station) refl)
      (by_choice (Counts s) (operation_by (λ o. o.rsp) centre_starts c) _ _ (λ o. counted_respond o z (entry_place z o.start s.centre) refl) tt))

  counted_waiting : (m : Message) (h : Host) → Counts s (in_waiting s m h)
  unfolding in_waiting
  counted_waiting m h =
      by_con (Counts s) m.body _ _
      (λ x e. by_test (Counts s) (same_id m.op_id (pos 0)) _ _
      (by_test (Counts s) (eqb x.version.value.major 1 && eqb x.version.value.minor 0) _ _
      (by_test (Counts s) (resumes s x) _ _ (record { station = refl; centre = refl }) (record { station = refl; centre = refl })) tt) tt) tt

  counted_connecting : (c : ℕ) (z : ℤ) → Counts s (in_connecting s c z)
  unfolding in_connecting
  counted_connecting c z = by_test (Counts s) (eqb c (command_of (bytes "conCmp")) && same_id z (pos 0)) _ _ (record { station = refl; centre = refl }) tt

  counted_state : (x : State) (m : Message) (h : Host) → Counts s (in_state x s m h)
  counted_state Waiting m h = counted_waiting m h
  counted_state Connecting m h = counted_connecting (command_in m.body) m.op_id
  counted_state Open m h = counted_open (four_of h.sign) (command_in m.body) m.op_id

  counted_arrival : (m : Message) (d : List ℕ) (h : Host) → Counts s (arrives s m d h)
  unfolding arrives
  counted_arrival m d h = by_test (Counts s) (fits m d) _ _ (counted_state s.state m h) tt

  counted_issue : (o : Operation) (m : Message) (d : List ℕ) (p : Option ℕ) → free_place s.centre ≡ p → Counts s (begin_at s o (one_below (lowest_of s)) m d p)
  counted_issue o m d none e = tt
  counted_issue o m d (some i) e =
      by_test (Counts s) (fits m d) _ _ (record { station = refl; centre = takes_one s.centre i (one_below (lowest_of s)) o.start (under (lowest_of s)) e }) tt

  counted_begin : (m : Message) (d : List ℕ) → Counts s (centre_begins s m d)
  unfolding centre_begins
  counted_begin m d = go s.state
    where
      go : (x : State) → Counts s (if_open x (λ _. kind_begins s (command_in m.body) m d))
      go Waiting = tt
      go Connecting = tt
      go Open =
          by_choice (Counts s) (operation_by (λ o. o.start) centre_starts (command_in m.body)) _ _
          (λ o. by_test (Counts s) (same_id (lowest_of s) last_id) _ _ tt (counted_issue o (under_id (one_below (lowest_of s)) m) d (free_place s.centre) refl)) tt

-- a step
reached_counts : (s : Session) (o : Outcome) → Counts s o → Counted s (happened_of o) (reached s o)
reached_counts s (Outcome.refused n) c = record { station = refl; centre = refl }
reached_counts s (Outcome.silent w t) c = c
reached_counts s (Outcome.replies w t m d) c = c

loss_counts : (s : Session) (x : State) → Counted s (happened_number (loss_of x)) (lost_in x s)
loss_counts s Waiting = record { station = refl; centre = refl }
loss_counts s Connecting = record { station = refl; centre = refl }
loss_counts s Open = record { station = refl; centre = refl }

pub step_counts : (s : Session) (e : Event) → Counted s (happened_in s e) (after s e)
unfolding lost
step_counts s (Event.arrival m d h) = reached_counts s (arrives s m d h) (counted_arrival s m d h)
step_counts s (Event.beginning m d) = reached_counts s (centre_begins s m d) (counted_begin s m d)
step_counts s Event.loss = loss_counts s s.state

-- a run
pub run_counts : (s : Session) (es : List Event)
    → (open_in (after_all s es).station ≡ count_all station_after s es (open_in s.station)) × (open_in (after_all s es).centre ≡ count_all centre_after s es (open_in s.centre))
unfolding after_all count_all
run_counts s [] = (refl, refl)
run_counts s (e ∷ es) =
    let c = step_counts s e in
    let r = run_counts (after s e) es in
    (r.0 ∙ ap (count_all station_after (after s e) es) c.station, r.1 ∙ ap (count_all centre_after (after s e) es) c.centre)
