-- No rule for what arrives looks at what the centre started, but where a con names an operation of the centre's or a response answers one, and none looks at
-- snScUuid but to fill conRsp: sessions that are equal in all else are so again after a message, whatever the host lends, if no con names an operation where
-- the centre started one. An uplink is accepted at both or refused at both. By the cases of each rule. Assumes nothing.
use mathlib.Core.Path.{◌≡◌, refl, sym, ap, subst, ◌∙◌}
use mathlib.Core.Bool.{Bool, true, false, not, ◌&&◌, ◌||◌}
use mathlib.Core.{List.List, List.[], Option.Option, Option.some, Option.none}
use Prim.Native.Nat.{ℕ}
use native.Mathlib.Omega.{arith}
use lib.{Dec.eqb, IntN.ℤ, IntN.pos, IntN.negsuc}
use borrow.Author.Tests.{le-ltb, ltb-false}
use Rattle.octets.specs.Choice.{either}
use Rattle.octets.proofs.Ranges.{true_false}
use Rattle.names.specs.Names.{commands, place_in, bytes, same_bytes, command_of}
use Rattle.record.specs.declared.{Con.Con, UlData.UlData, Body.Body, Message.Message}
use Rattle.record.specs.{Record.four_of, Record.command_in, Says.sixteen_bytes, Fits.fits}
use Rattle.session.specs.Session.{State, Session, Host}
use Rattle.session.specs.{Session.State.Waiting, Session.State.Connecting, Session.State.Open, Place.same_id, Place.free_place, Place.entry_place}
use Rattle.session.specs.Kinds.{Operation, station_starts, centre_starts, operation_by}
use Rattle.session.specs.Arrive.{Outcome, is_below, highest_of, lowest_of, resumes, con_in, or_outcome, takes_con, in_waiting, in_connecting, start_at, complete_at, respond_at, in_open, in_state, arrives}
use Rattle.session.specs.Centre.{one_below, last_id, under_id, begin_at, kind_begins, if_open, centre_begins, lost_in, lost}
use Rattle.session.specs.Run.{reached}
use Rattle.session.proofs.Cases.{by_test, by_choice}
use Rattle.steps.proofs.Kept.{own_refusal}
use Rattle.live.specs.Live.{names_own, con_names}
use Rattle.refusal.specs.declared.Refusal.TheVariants as refusal

-- a session without its snScUuid and what the centre started
abbrev pub plain : Session → Session
plain s = record {
  state = s.state;
  stored = s.stored;
  bs_eui = s.bs_eui;
  sn_bs_uuid = s.sn_bs_uuid;
  sn_sc_uuid = [];
  highest = s.highest;
  lowest = pos 0;
  station = s.station;
  centre = [];
}

-- equal in all that a station's side needs: in all but snScUuid, lowest and centre
abbrev pub Alike : Session → Session → Type 0
Alike s t = plain s ≡ plain t

-- the centre started nothing
abbrev pub Quiet : Session → Type 0
Quiet s = is_below (lowest_of s) (pos 0) ≡ false

-- the lowest is never above 0; so only an ID below 0 may be compared otherwise with it than with 0, and only where the centre started something
never_above : (s : Session) → is_below (pos 0) (lowest_of s) ≡ false
never_above s = go (is_below (pos 0) s.lowest) refl
  where
    go : (b : Bool) → is_below (pos 0) s.lowest ≡ b → is_below (pos 0) (either b (λ _. pos 0) (λ _. s.lowest)) ≡ false
    go true e = refl
    go false e = e

as_with_zero : (l z : ℤ) → is_below (pos 0) l ≡ false → (is_below z (pos 0) ≡ true → is_below l (pos 0) ≡ false) → is_below z l ≡ is_below z (pos 0)
as_with_zero (pos n) z a q = let e : n ≡ 0 = omega (arith, ltb-false 0 n a) in ap (λ (k : ℕ). is_below z (pos k)) e
as_with_zero (negsuc k) (pos n) a q = sym (le-ltb n 0 (omega arith))
as_with_zero (negsuc k) (negsuc n) a q = true_false (q refl)

-- a con resumes at both or at neither
resumes_plain : (s : Session) (x : Con) → (names_own x ≡ true → Quiet s) → resumes s x ≡ resumes (plain s) x
resumes_plain s x q =
    ap (λ (b : Bool). s.stored
    && (eqb s.bs_eui x.bs_eui
    && (same_bytes s.sn_bs_uuid (sixteen_bytes x.sn_bs_uuid)
    && ((not x.sn_bs_op_id.here || not (is_below (highest_of s) x.sn_bs_op_id.value)) && b))))
    (go x.sn_sc_op_id.here x.sn_sc_op_id.value q)
  where
    go : (here : Bool) (z : ℤ) → (here && is_below z (pos 0) ≡ true → Quiet s)
        → not here || not (is_below z (lowest_of s)) ≡ not here || not (is_below z (pos 0))
    go true z q = ap not (as_with_zero (lowest_of s) z (never_above s) q)
    go false z q = refl

-- what arrives, at a session and at the same without what it need not have: the sessions reached are alike, and the centre has started nothing by it
module _ (s : Session) where
  abbrev Leads : Outcome → Outcome → Type 0
  Leads o p = Alike (reached s o) (reached (plain s) p) × (Quiet s → Quiet (reached s o))

  same_test : (b : Bool) (x y u v : Outcome) → Leads x u → Leads y v → Leads (either b (λ _. x) (λ _. y)) (either b (λ _. u) (λ _. v))
  same_test true x y u v p q = p
  same_test false x y u v p q = q

  same_choice : {A : Type 0} (c : Option A) (f g : A → Outcome) (x y : Outcome) → ((a : A) → Leads (f a) (g a)) → Leads x y
      → Leads (or_outcome c f (λ _. x)) (or_outcome c g (λ _. y))
  same_choice none f g x y p q = q
  same_choice (some a) f g x y p q = p a

  waiting : (z : ℤ) (h g : Host) (c : Option Con) → (con_names c ≡ true → Quiet s)
      → Leads (or_outcome c (λ x. takes_con s z x h) (λ _. Outcome.refused refusal.State)) (or_outcome c (λ x. takes_con (plain s) z x g) (λ _. Outcome.refused refusal.State))
  waiting z h g none q = (refl, λ k. k)
  waiting z h g (some x) q =
      same_test (same_id z (pos 0)) _ _ _ _
      (same_test (eqb x.version.value.major 1 && eqb x.version.value.minor 0) _ _ _ _
      (rw (sym (resumes_plain s x q)) (same_test (resumes s x) _ _ _ _ (refl, λ k. k) (refl, λ k. refl))) (refl, λ k. k)) (refl, λ k. k)

  connecting : (c : ℕ) (z : ℤ) → Leads (in_connecting s c z) (in_connecting (plain s) c z)
  unfolding in_connecting
  connecting c z = same_test (eqb c (command_of (bytes "conCmp")) && same_id z (pos 0)) _ _ _ _ (refl, λ k. k) (refl, λ k. k)

  at_start : (o : Operation) (z : ℤ) (a b : ℕ) (p : Option ℕ) → Leads (start_at s a o z p) (start_at (plain s) b o z p)
  at_start o z a b none = (refl, λ k. k)
  at_start o z a b (some i) = (refl, λ k. k)

  at_cmp : (p : Option ℕ) → Leads (complete_at s p) (complete_at (plain s) p)
  at_cmp none = (refl, λ k. k)
  at_cmp (some i) = (refl, λ k. k)

  -- a response may find its operation at one and not at the other
  at_rsp : (o : Operation) (z : ℤ) (p q : Option ℕ) → Leads (respond_at s o z p) (respond_at (plain s) o z q)
  at_rsp o z none none = (refl, λ k. k)
  at_rsp o z none (some j) = (refl, λ k. k)
  at_rsp o z (some i) none = (refl, λ k. k)
  at_rsp o z (some i) (some j) = (refl, λ k. k)

  operating : (a b c : ℕ) (z : ℤ) → Leads (in_open s a c z) (in_open (plain s) b c z)
  unfolding in_open
  operating a b c z =
      same_choice (operation_by (λ o. o.start) station_starts c) _ _ _ _
      (λ o. same_test (is_below (highest_of s) z) _ _ _ _ (at_start o z a b (free_place s.station)) (refl, λ k. k))
      (same_choice (operation_by (λ o. o.cmp) station_starts c) _ _ _ _ (λ o. at_cmp (entry_place z o.start s.station))
      (same_choice (operation_by (λ o. o.rsp) centre_starts c) _ _ _ _
      (λ o. at_rsp o z (entry_place z o.start s.centre) (entry_place z o.start [])) (refl, λ k. k)))

  module _ (m : Message) (h g : Host) (q : con_names (con_in m.body) ≡ true → Quiet s) where
    in_state_lem : (x : State) → Leads (in_state x s m h) (in_state x (plain s) m g)
    unfolding in_waiting
    in_state_lem Waiting = waiting m.op_id h g (con_in m.body) q
    in_state_lem Connecting = connecting (command_in m.body) m.op_id
    in_state_lem Open = operating (four_of h.sign) (four_of g.sign) (command_in m.body) m.op_id

    arrives_plain : (d : List ℕ) → Leads (arrives s m d h) (arrives (plain s) m d g)
    unfolding arrives
    arrives_plain d = same_test (fits m d) _ _ _ _ (in_state_lem s.state) (refl, λ k. k)

  -- an uplink
  refusal_test : (b : Bool) (x y u v : Outcome) → own_refusal x ≡ own_refusal u → own_refusal y ≡ own_refusal v
      → own_refusal (either b (λ _. x) (λ _. y)) ≡ own_refusal (either b (λ _. u) (λ _. v))
  refusal_test true x y u v p q = p
  refusal_test false x y u v p q = q

  start_refusal : (o : Operation) (z : ℤ) (a b : ℕ) (p : Option ℕ) → own_refusal (start_at s a o z p) ≡ own_refusal (start_at (plain s) b o z p)
  start_refusal o z a b none = refl
  start_refusal o z a b (some i) = refl

  module _ (z : ℤ) (x : UlData) (h g : Host) where
    abbrev uplink : Message
    uplink = record { op_id = z; body = Body.UlData x }

    uplink_in : (k : State) → own_refusal (in_state k s uplink h) ≡ own_refusal (in_state k (plain s) uplink g)
    unfolding in_waiting in_connecting in_open operation_by station_starts command_of commands place_in
    uplink_in Waiting = refl
    uplink_in Connecting = refl
    uplink_in Open = refusal_test (is_below (highest_of s) z) _ _ _ _ (start_refusal (record { start = 7; rsp = 19; cmp = 20 }) z (four_of h.sign) (four_of g.sign) (free_place s.station)) refl

    uplink_plain : (d : List ℕ) → own_refusal (arrives s uplink d h) ≡ own_refusal (arrives (plain s) uplink d g)
    unfolding arrives
    uplink_plain d = refusal_test (fits uplink d) _ _ _ _ (uplink_in s.state) refl

module _ (s t : Session) (m : Message) (d : List ℕ) (h g : Host) (e : Alike s t) where
  pub arrives_alike : (con_names (con_in m.body) ≡ true → Quiet s) → Quiet t → Alike (reached s (arrives s m d h)) (reached t (arrives t m d g))
  arrives_alike q r =
      (arrives_plain s m h h q d).0 ∙ ap (λ (u : Session). plain (reached u (arrives u m d h))) e ∙ sym (arrives_plain t m g h (λ k. r) d).0

  pub same_refusal : (x : UlData) → m.body ≡ Body.UlData x → own_refusal (arrives s m d h) ≡ own_refusal (arrives t m d g)
  same_refusal x b =
      let under : Body → Message = λ b. record { op_id = m.op_id; body = b } in
      subst (λ (b : Body). own_refusal (arrives s (under b) d h) ≡ own_refusal (arrives t (under b) d g)) (sym b)
      (uplink_plain s m.op_id x h h d ∙ ap (λ (u : Session). own_refusal (arrives u (under (Body.UlData x)) d h)) e ∙ sym (uplink_plain t m.op_id x g h d))

pub arrives_quiet : (s : Session) (m : Message) (d : List ℕ) (h : Host) → Quiet s → Quiet (reached s (arrives s m d h))
arrives_quiet s m d h q = (arrives_plain s m h h (λ k. q) d).1 q

-- what the centre starts
module _ (s : Session) (m : Message) (d : List ℕ) where
  abbrev Stays : Outcome → Type 0
  Stays o = Alike (reached s o) s

  issue_stays : (o : Operation) (z : ℤ) (u : Message) (p : Option ℕ) → Stays (begin_at s o z u d p)
  issue_stays o z u none = refl
  issue_stays o z u (some i) = by_test Stays (fits u d) _ _ refl refl

  pub begins_alike : Stays (centre_begins s m d)
  unfolding centre_begins
  begins_alike = go s.state
    where
      go : (x : State) → Stays (if_open x (λ _. kind_begins s (command_in m.body) m d))
      go Waiting = refl
      go Connecting = refl
      go Open =
          by_choice Stays (operation_by (λ o. o.start) centre_starts (command_in m.body)) _ _
          (λ o. by_test Stays (same_id (lowest_of s) last_id) _ _ refl
          (issue_stays o (one_below (lowest_of s)) (under_id (one_below (lowest_of s)) m) (free_place s.centre))) refl

-- a lost connection
lost_plain : (s : Session) → plain (lost s) ≡ lost (plain s)
unfolding lost
lost_plain s = go s.state
  where
    go : (x : State) → plain (lost_in x s) ≡ lost_in x (plain s)
    go Waiting = refl
    go Connecting = refl
    go Open = refl

pub lost_alike : (s t : Session) → Alike s t → Alike (lost s) (lost t)
lost_alike s t e = lost_plain s ∙ ap lost e ∙ sym (lost_plain t)

pub lost_quiet : (s : Session) → Quiet s → Quiet (lost s)
unfolding lost
lost_quiet s q = go s.state
  where
    go : (x : State) → Quiet (lost_in x s)
    go Waiting = q
    go Connecting = q
    go Open = q

pub lost_lost : (s : Session) → lost (lost s) ≡ lost s
unfolding lost
lost_lost s = go s.state refl
  where
    go : (x : State) → s.state ≡ x → lost_in (lost_in x s).state (lost_in x s) ≡ lost_in x s
    go Waiting e = ap (λ (x : State). lost_in x s) e
    go Connecting e = refl
    go Open e = refl
