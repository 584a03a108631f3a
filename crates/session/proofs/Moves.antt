-- Which steps leave a session's number as it is, for any number that only a start of its own side changes; and a run of steps that each leave
-- it or set it beyond what it was. By cases on each step, then by induction over the run. Assumes nothing.
use mathlib.Core.Path.{◌≡◌, refl, sym, subst}
use mathlib.Core.Bool.{Bool, true, false, ◌&&◌}
use mathlib.Core.{List.List, List.[], List.◌∷◌, Logic.◌⊎◌, Logic.inl, Logic.inr, Option.Option, Option.some, Option.none}
use Prim.Native.Nat.{ℕ}
use lib.{Dec.T, Dec.eqb, IntN.ℤ, IntN.pos}
use Rattle.octets.specs.Choice.{either}
use Rattle.names.specs.Names.{bytes, command_of}
use Rattle.record.specs.declared.{Con.Con, Message.Message}
use Rattle.record.specs.Fits.{fits}
use Rattle.session.specs.Session.{State, Entry, Session, Host}
use Rattle.session.specs.{Session.State.Waiting, Session.State.Connecting, Session.State.Open, Place.same_id, Place.entry_place, Place.freed}
use Rattle.session.specs.{Kinds.Operation, Centre.stored, Centre.lost_in, Centre.lost}
use Rattle.session.specs.Arrive.{Outcome, resumes, resumed, begun, or_outcome, in_waiting, opened, in_connecting, with_station, with_centre, complete_at, respond_at}
use Rattle.session.specs.Run.{Event, reached, after, has_begun, begins_anew, Beyond, latest, Ordered}
use Rattle.session.proofs.Cases.{by_test, by_choice, by_con}
use Rattle.refusal.specs.declared.Refusal.TheVariants as refusal

-- a number of a session that begins with 0, and that resuming, opening, freeing an entry and losing the connection leave as it is
pub record Steady (f : Session → ℤ) : Type 0 where
  pub beginning : (h : Host) (x : Con) → f (begun h x) ≡ pos 0
  pub resuming : (s : Session) → f (resumed s) ≡ f s
  pub opening : (s : Session) → f (opened s) ≡ f s
  pub storing : (s : Session) → f (stored s) ≡ f s
  pub completing : (s : Session) (t : List Entry) → f (with_station s s.highest t) ≡ f s
  pub responding : (s : Session) (t : List Entry) → f (with_centre s s.lowest t) ≡ f s

module _ (f : Session → ℤ) (S : Steady f) (s : Session) where
  lost_in_lem : (x : State) → f (lost_in x s) ≡ f s
  lost_in_lem Waiting = refl
  lost_in_lem Connecting = S.storing s
  lost_in_lem Open = S.storing s

  pub lost_keeps : f (lost s) ≡ f s
  unfolding lost
  lost_keeps = lost_in_lem s.state

  -- an outcome that leaves the number
  abbrev pub Keeps : Outcome → Type 0
  Keeps o = f (reached s o) ≡ f s

  -- a con that resumes or is refused leaves the number; one that does neither begins anew
  abbrev pub Waited : Outcome → Type 0
  Waited o = ((has_begun o ≡ true) × (f (reached s o) ≡ pos 0)) ⊎ ((has_begun o ≡ false) × Keeps o)

  pub waited : (m : Message) (d : List ℕ) (h : Host) → Waited (either (fits m d) (λ _. in_waiting s m h) (λ _. Outcome.refused refusal.Invalid))
  unfolding in_waiting
  waited m d h =
      by_test Waited (fits m d) _ _
      (by_con Waited m.body _ _
      (λ x e. by_test Waited (same_id m.op_id (pos 0)) _ _
      (by_test Waited (eqb x.version.value.major 1 && eqb x.version.value.minor 0) _ _
      (by_test Waited (resumes s x) _ _ (inr (refl, S.resuming s)) (inl (refl, S.beginning h x))) (inr (refl, refl))) (inr (refl, refl))) (inr (refl, refl))) (inr (refl, refl))

  pub connecting_keeps : (c : ℕ) (z : ℤ) → Keeps (in_connecting s c z)
  unfolding in_connecting
  connecting_keeps c z = by_test Keeps (eqb c (command_of (bytes "conCmp")) && same_id z (pos 0)) _ _ (S.opening s) refl

  completes : (p : Option ℕ) → Keeps (complete_at s p)
  completes none = refl
  completes (some i) = S.completing s (freed s.station i)

  responds : (o : Operation) (z : ℤ) (p : Option ℕ) → Keeps (respond_at s o z p)
  responds o z none = refl
  responds o z (some i) = S.responding s (freed s.centre i)

  -- a Cmp, a Rsp, and what is neither
  pub ending_keeps : (z : ℤ) (c r : Option Operation)
      → Keeps (or_outcome c (λ o. complete_at s (entry_place z o.start s.station)) (λ _. or_outcome r (λ o. respond_at s o z (entry_place z o.start s.centre)) (λ _. Outcome.refused refusal.State)))
  ending_keeps z c r =
      by_choice Keeps c _ _ (λ o. completes (entry_place z o.start s.station))
      (by_choice Keeps r _ _ (λ o. responds o z (entry_place z o.start s.centre)) refl)

-- a step leaves the number, or sets it beyond what it was; or a new session begins with 0
module _ (f : Session → ℤ) (beyond : ℤ → ℤ → Bool) where
  pub data Moves (s t : Session) : Option ℤ → Type 0 where
    kept : f t ≡ f s → Moves s t none
    moved : (z : ℤ) → T (beyond (f s) z) → f t ≡ z → Moves s t (some z)

  pub data Goes (s t : Session) : Bool → Option ℤ → Type 0 where
    anew : f t ≡ pos 0 → Goes s t true none
    on : (o : Option ℤ) → Moves s t o → Goes s t false o

  -- by what a con does while waiting
  pub from_waited : (S : Steady f) (s : Session) (o : Outcome) → Waited f S s o → Goes s (reached s o) (has_begun o) none
  from_waited S s o (inl p) = subst (λ (b : Bool). Goes s (reached s o) b none) (sym p.0) (anew p.1)
  from_waited S s o (inr p) = subst (λ (b : Bool). Goes s (reached s o) b none) (sym p.0) (on none (kept p.1))

  -- along any run
  module _ (id : Session → Event → Option ℤ) (step : (s : Session) (e : Event) → Goes s (after s e) (begins_anew s e) (id s e)) where
    joined : (s t : Session) (b : Bool) (o : Option ℤ) (es : List Event) → Goes s t b o → Ordered beyond id (f t) t es
        → Beyond beyond (f s) o × Ordered beyond id (either b (λ _. pos 0) (λ _. latest (f s) o)) t es
    joined s t true none es (anew e) r = (tt, subst (λ (z : ℤ). Ordered beyond id z t es) e r)
    joined s t true (some z) es x r = elim x [ ]
    joined s t false none es (on o (kept e)) r = (tt, subst (λ (z : ℤ). Ordered beyond id z t es) e r)
    joined s t false (some z) es (on o (moved y b e)) r = (b, subst (λ (x : ℤ). Ordered beyond id x t es) e r)

    pub ordered : (s : Session) (es : List Event) → Ordered beyond id (f s) s es
    unfolding Ordered
    ordered s [] = tt
    ordered s (e ∷ es) = joined s (after s e) (begins_anew s e) (id s e) es (step s e) (ordered (after s e) es)
