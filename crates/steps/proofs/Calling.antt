-- The public calls: by the test of the bytes, of what the host lent, of the record, and by the state. Each law in the shape of a need of the code.
-- Assumes nothing.
use mathlib.Core.Path.{◌≡◌, refl, sym, ap, ◌∙◌}
use mathlib.Core.Bool.{Bool, true, false, not, ◌||◌}
use mathlib.Core.List.{List, []}
use Prim.Native.Nat.{ℕ, zero, suc, ◌<◌}
use native.Mathlib.Omega.{arith}
use lib.{Dec.eqb, IntN.ℤ, Signed.mag}
use lib.ListN.{length, get_or, set, length-set}
use mir.Syntax.{w64}
use mir.Val.{to_z, of_z}
use borrow.Author.Tests.{eqb-true}
use Rattle.octets.proofs.Reading.{Told, is_bytes}
use Rattle.record.specs.declared.Message.{Message}
use Rattle.record.specs.{Record.four_of, Record.command_in, Fits.fault_in}
use Rattle.session.specs.{Session.Session, Session.Host, Session.State, Centre.kind_begins, Centre.if_open, Centre.centre_begins}
use Rattle.session.specs.{Image.state_of, Image.session_at, Image.is_session}
use Rattle.session.specs.Arrive.{Outcome, in_waiting, in_connecting, in_open, in_state, arrives}
use Rattle.session.proofs.Image.{tested}
use Rattle.steps.specs.Code.Lies.{Lies, unnumbered}
use Rattle.steps.specs.Called.{Answer, Called, called, refused_as, called_by, host_of, arrive_on, begin_on}
use Rattle.steps.proofs.Tests.{unset, set_is, both_set, not_both, fault_none, fault_some}
use Rattle.steps.proofs.{Calls.refused_call, Knowing.kept, Lying.told_long, Lying.lies, Lying.state_is}
use Rattle.refusal.specs.declared.Refusal.TheVariants as refusal

-- the state's byte
module _ (d room : List ℕ) (m : Message) (eui : ℕ) (uuid sign : List ℕ) where
  abbrev s : Session
  s = session_at d

  abbrev host : Host
  host = host_of eui uuid sign

  by_state : (x : ℕ) → get_or d 344 0 ≡ x → in_state s.state s m host ≡ in_state (state_of x) s m host
  by_state x e = ap (λ (y : State). in_state y s m host) (state_is d x e)

  pub call_waiting : (c : Called) → get_or d 344 0 ≡ 0 → c ≡ called_by d room (in_waiting s m (host_of eui uuid [])) → c ≡ called_by d room (in_state s.state s m host)
  unfolding in_waiting
  call_waiting c e p = p ∙ sym (ap (called_by d room) (by_state 0 e))

  module _ (f : mag m.op_id < 0x8000000000000000) (k : ℕ) (g : k ≡ command_in m.body) where
    pub call_open : (four : ℕ) (c : Called) → four ≡ four_of sign → get_or d 344 0 ≡ 2 → c ≡ called_by d room (in_open s four k (to_z w64 (of_z w64 m.op_id))) → c ≡ called_by d room (in_state s.state s m host)
    call_open four c h e p =
        p ∙ ap (λ (z : ℤ). called_by d room (in_open s four k z)) (kept m.op_id f) ∙ ap (λ (n : ℕ). called_by d room (in_open s n k m.op_id)) h
        ∙ ap (λ (n : ℕ). called_by d room (in_open s (four_of sign) n m.op_id)) g ∙ sym (ap (called_by d room) (by_state 2 e))

    connecting_is : Lies d → (get_or d 344 0 ≡ 0 → ⊥) → (get_or d 344 0 ≡ 2 → ⊥) → in_state s.state s m host ≡ in_connecting s (command_in m.body) m.op_id
    connecting_is l p q = by_state (get_or d 344 0) refl ∙ go (get_or d 344 0) p q (tested d l.is).state
      where
        go : (x : ℕ) → (x ≡ 0 → ⊥) → (x ≡ 2 → ⊥) → x < 3 → in_state (state_of x) s m host ≡ in_connecting s (command_in m.body) m.op_id
        go zero p q l = absurd (p refl)
        go (suc zero) p q l = refl
        go (suc (suc zero)) p q l = absurd (q refl)
        go (suc (suc (suc x))) p q l = absurd (omega arith)

    pub call_connecting : (r : Answer) (i : List ℕ) → Lies d → (get_or d 344 0 ≡ 0 → ⊥) → (get_or d 344 0 ≡ 2 → ⊥)
        → ((any : List ℕ) → ◌≡◌ {A = Called} (called r i any) (called_by d any (in_connecting s k (to_z w64 (of_z w64 m.op_id)))))
        → ◌≡◌ {A = Called} (called r i room) (called_by d room (in_state s.state s m host))
    call_connecting r i l p q h =
        h room ∙ ap (λ (z : ℤ). called_by d room (in_connecting s k z)) (kept m.op_id f) ∙ ap (λ (n : ℕ). called_by d room (in_connecting s n m.op_id)) g
        ∙ sym (ap (called_by d room) (connecting_is l p q))

pub ruleset states = (call_waiting, call_open, call_connecting)

-- what the test of the host's bytes told
module _ (u g : List ℕ) (h : not (eqb (length u) 16) || not (eqb (length g) 4) ≡ false) where
  pub uuid_long : length u ≡ 16
  uuid_long = eqb-true (length u) 16 (both_set (eqb (length u) 16) (eqb (length g) 4) h).0

  pub sign_long : length g ≡ 4
  sign_long = eqb-true (length g) 4 (both_set (eqb (length u) 16) (eqb (length g) 4) h).1

-- what the test of the bytes told
module _ (d : List ℕ) (b : Bool) (e : b ≡ is_session d) where
  module _ (t : not b ≡ false) where
    pub in_session : (k : ℕ) → k < 368 → k < length d
    in_session k h = omega (arith, told_long d b e t)

    pub in_session_set : (j v k : ℕ) → k < 368 → k < length (set d j v)
    in_session_set j v k h = omega (arith, told_long d b e t, length-set d j v)

    pub told_lies : Told d → Lies d
    told_lies f = lies d b e t (is_bytes d f)

  module _ (m : Message) (lent room : List ℕ) where
    module _ (eui : ℕ) (u g : List ℕ) where
      pub arrive_wrong : (r : Answer) → not b ≡ true → r ≡ refused_as refusal.Invalid → ◌≡◌ {A = Called} (called r d room) (arrive_on d m lent eui u g room)
      unfolding arrive_on
      arrive_wrong r t p = simp (sym e ∙ unset b t) (refused_call d room (Outcome.refused refusal.Invalid) r refusal.Invalid p refl)

      module _ (t : not b ≡ false) where
        pub arrive_unlent : (r : Answer) → not (eqb (length u) 16) || not (eqb (length g) 4) ≡ true → r ≡ refused_as refusal.Invalid → ◌≡◌ {A = Called} (called r d room) (arrive_on d m lent eui u g room)
        unfolding arrive_on
        arrive_unlent r h p = simp (sym e ∙ set_is b t, not_both (eqb (length u) 16) (eqb (length g) 4) h) (refused_call d room (Outcome.refused refusal.Invalid) r refusal.Invalid p refl)

        module _ (h : not (eqb (length u) 16) || not (eqb (length g) 4) ≡ false) (f : ℕ) (v : f ≡ fault_in m lent) where
          arrives_as : (x : Called) (o : Outcome) → x ≡ called_by d room o → arrives (session_at d) m lent (host_of eui u g) ≡ o → x ≡ arrive_on d m lent eui u g room
          unfolding arrive_on
          arrives_as x o p q =
              let k = both_set (eqb (length u) 16) (eqb (length g) 4) h in
              simp (sym e ∙ set_is b t, k.0, k.1) (p ∙ ap (called_by d room) (sym q))

          pub arrive_unfit : (r : Answer) → (f ≡ 0 → ⊥) → r ≡ refused_as refusal.Invalid → ◌≡◌ {A = Called} (called r d room) (arrive_on d m lent eui u g room)
          unfolding arrives
          arrive_unfit r n p = arrives_as (called r d room) (Outcome.refused refusal.Invalid) (refused_call d room (Outcome.refused refusal.Invalid) r refusal.Invalid p refl) (simp (fault_some m lent f v n))

          pub arrive_fit : (x : Called) → f ≡ 0 → x ≡ called_by d room (in_state (session_at d).state (session_at d) m (host_of eui u g)) → x ≡ arrive_on d m lent eui u g room
          unfolding arrives
          arrive_fit x n p = arrives_as x (in_state (session_at d).state (session_at d) m (host_of eui u g)) p (simp (sym (fault_none m lent f v n)))

    pub begin_wrong : (r : Answer) → not b ≡ true → r ≡ refused_as refusal.Invalid → ◌≡◌ {A = Called} (called r d room) (begin_on d m lent room)
    unfolding begin_on
    begin_wrong r t p = simp (sym e ∙ unset b t) (refused_call d room (Outcome.refused refusal.Invalid) r refusal.Invalid p refl)

    module _ (t : not b ≡ false) where
      begins_as : (x : Called) (o : Outcome) → x ≡ called_by d room o → centre_begins (session_at d) m lent ≡ o → x ≡ begin_on d m lent room
      unfolding begin_on
      begins_as x o p q = simp (sym e ∙ set_is b t) (p ∙ ap (called_by d room) (sym q))

      pub begin_closed : (r : Answer) → (get_or d 344 0 ≡ 2 → ⊥) → r ≡ refused_as refusal.State → ◌≡◌ {A = Called} (called r d room) (begin_on d m lent room)
      unfolding centre_begins
      begin_closed r q p =
          begins_as (called r d room) (Outcome.refused refusal.State) (refused_call d room (Outcome.refused refusal.State) r refusal.State p refl)
          (ap (λ (x : State). if_open x (λ _. kind_begins (session_at d) (command_in m.body) m lent)) (state_is d (get_or d 344 0) refl) ∙ go (get_or d 344 0) q (tested d (sym e ∙ set_is b t)).state)
        where
          go : (x : ℕ) → (x ≡ 2 → ⊥) → x < 3 → if_open (state_of x) (λ _. kind_begins (session_at d) (command_in m.body) m lent) ≡ Outcome.refused refusal.State
          go zero q l = refl
          go (suc zero) q l = refl
          go (suc (suc zero)) q l = absurd (q refl)
          go (suc (suc (suc x))) q l = absurd (omega arith)

      pub begin_open : (x : Called) → get_or d 344 0 ≡ 2 → x ≡ called_by d room (kind_begins (session_at d) (command_in m.body) (unnumbered m.body) lent) → x ≡ begin_on d m lent room
      unfolding centre_begins
      begin_open x q p =
          begins_as x (kind_begins (session_at d) (command_in m.body) m lent) p
          (ap (λ (x : State). if_open x (λ _. kind_begins (session_at d) (command_in m.body) m lent)) (state_is d 2 q))

pub ruleset callings = (uuid_long, sign_long, in_session, in_session_set, told_lies, arrive_wrong, arrive_unlent, arrive_unfit, arrive_fit, begin_wrong, begin_closed, begin_open)
