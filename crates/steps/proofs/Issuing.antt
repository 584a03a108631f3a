-- What the centre starts, and the ID that it issues: one below the lowest, which the machine can count down to unless it is the least that there is.
-- Assumes nothing.
use mathlib.Core.Path.{◌≡◌, refl, sym, ap, subst, ◌∙◌}
use mathlib.Core.Bool.{Bool, true, false, not, ◌&&◌}
use mathlib.Core.{List.List, Option.Option, Option.some, Option.none}
use Prim.Native.Nat.{ℕ, ◌-◌, ◌^◌, ◌<◌}
use native.Mathlib.Omega.{arith}
use lib.{Dec.eqb, Signed.mag, Signed.lt_z}
use lib.IntN.{ℤ, pos, negsuc, ◌-ℤ◌}
use mir.Syntax.{w64}
use mir.Val.{SFits, to_z, of_z}
use mir.ValLaws.{to_z-of_z}
use borrow.Author.Tests.{eq-eqb, ne_eqb, eqb-true, eqb-false, ltb-false}
use Rattle.octets.specs.Choice.{either}
use Rattle.octets.proofs.{Ranges.true_false, Truth.both}
use Rattle.names.specs.Names.{commands, place_in, command_of}
use Rattle.record.specs.declared.{Body.Body, Message.Message}
use Rattle.record.specs.Record.{command_in}
use Rattle.session.specs.{Session.Session, Place.same_id, Place.free_place, Kinds.Operation, Kinds.centre_starts, Kinds.operation_by}
use Rattle.session.specs.{Arrive.Outcome, Arrive.lowest_of, Image.session_at}
use Rattle.session.specs.Centre.{one_below, last_id, under_id, begin_at, begins, kind_begins}
use Rattle.steps.specs.Code.Lies.{started_by, unnumbered}
use Rattle.steps.specs.Called.{Answer, Called, called, refused_as, called_by}
use Rattle.steps.proofs.{Tests.unset, Calls.by_outcome, Calls.refused_call, Knowing.kept, Knowing.result_bits}
use Rattle.refusal.specs.declared.Refusal.TheVariants as refusal

-- the lowest that counts is not above 0
not_above : (b : Bool) (z : ℤ) → lt_z (pos 0) z ≡ b → lt_z (pos 0) (either b (λ _. pos 0) (λ _. z)) ≡ false
not_above true z e = refl
not_above false z e = e

pub lowest_low : (s : Session) → lt_z (pos 0) (lowest_of s) ≡ false
lowest_low s = not_above (lt_z (pos 0) s.lowest) s.lowest refl

last_is : (z : ℤ) → mag z < 0x8000000000000000 → of_z w64 z ≡ 0x8000000000000000 → same_id z last_id ≡ true
last_is (pos n) h e = absurd (omega (arith, h, e))
last_is (negsuc k) h e = eq-eqb k (2 ^ 63 - 1) (omega (arith, h, e))

last_not : (z : ℤ) → mag z < 0x8000000000000000 → (of_z w64 z ≡ 0x8000000000000000 → ⊥) → same_id z last_id ≡ false
last_not (pos n) h e = refl
last_not (negsuc k) h e = ne_eqb k (2 ^ 63 - 1) (λ p. e (rw p))

one_less : (z : ℤ) → lt_z (pos 0) z ≡ false → z -ℤ pos 1 ≡ one_below z
one_less (pos n) e = let h : n ≡ 0 = omega (arith, ltb-false 0 n e) in rw h
one_less (negsuc k) e = ap negsuc (omega arith)

one_less_bits : (z : ℤ) → mag z < 0x8000000000000000 → (of_z w64 z ≡ 0x8000000000000000 → ⊥) → mag (one_below z) < 0x8000000000000000
one_less_bits (pos n) h e = omega arith
one_less_bits (negsuc k) h e = omega (arith, h, e)

-- by the lowest ID that counts, x
module _ (d : List ℕ) (x : ℤ) (g : mag x < 0x8000000000000000) (e : x ≡ lowest_of (session_at d)) where
  abbrev lowest : ℤ
  lowest = lowest_of (session_at d)

  low : mag lowest < 0x8000000000000000
  low = result_bits x lowest g e

  module _ (room : List ℕ) (start : ℕ) (b : Body) (lent : List ℕ) where
    abbrev begin : Outcome
    begin = begins (session_at d) (started_by start 0) (unnumbered b) lent

    pub issue_last : (r : Answer) → of_z w64 x ≡ 0x8000000000000000 → r ≡ refused_as refusal.IdOutOfOrder → ◌≡◌ {A = Called} (called r d room) (called_by d room begin)
    issue_last r t p = refused_call d room begin r refusal.IdOutOfOrder p (simp (last_is lowest low (ap (of_z w64) (sym e) ∙ t)))

  module _ (t : of_z w64 x ≡ 0x8000000000000000 → ⊥) where
    not_last : of_z w64 lowest ≡ 0x8000000000000000 → ⊥
    not_last p = t (ap (of_z w64) e ∙ p)

    below_is : to_z w64 (of_z w64 x) -ℤ pos 1 ≡ one_below lowest
    below_is = rw (e, kept lowest low) (one_less lowest (lowest_low (session_at d)))

    pub below_fits : SFits w64 (to_z w64 (of_z w64 x) -ℤ pos 1)
    below_fits = subst (SFits w64) (sym below_is) (record { sfits = one_less_bits lowest low not_last })

    -- the record under the ID issued, as the machine has it
    abbrev next : ℤ
    next = to_z w64 (of_z w64 (to_z w64 (of_z w64 x) -ℤ pos 1))

    pub issue_next : (room : List ℕ) (start : ℕ) (b : Body) (lent : List ℕ) (c : Called)
        → c ≡ called_by d room (begin_at (session_at d) (started_by start 0) next (record { op_id = next; body = b }) lent (free_place (session_at d).centre))
        → c ≡ called_by d room (begins (session_at d) (started_by start 0) (unnumbered b) lent)
    issue_next room start b lent c p =
        by_outcome d room c (at_place (one_below lowest)) (begins (session_at d) (started_by start 0) (unnumbered b) lent)
        (p ∙ ap (λ (y : ℤ). called_by d room (at_place y)) (to_z-of_z w64 (to_z w64 (of_z w64 x) -ℤ pos 1) below_fits ∙ below_is)) (simp (last_not lowest low not_last))
      where
        at_place : ℤ → Outcome
        at_place y = begin_at (session_at d) (started_by start 0) y (record { op_id = y; body = b }) lent (free_place (session_at d).centre)

-- what the centre starts: Rsp and Cmp of an operation are not looked at
begin_any : (s : Session) (o : Operation) (m : Message) (lent : List ℕ) → begins s o m lent ≡ begins s (started_by o.start 0) m lent
begin_any s o m lent = ap (λ (x : Outcome). either (same_id (lowest_of s) last_id) (λ _. Outcome.refused refusal.IdOutOfOrder) (λ _. x)) (go (free_place s.centre))
  where
    go : (p : Option ℕ) → begin_at s o (one_below (lowest_of s)) (under_id (one_below (lowest_of s)) m) lent p ≡ begin_at s (started_by o.start 0) (one_below (lowest_of s)) (under_id (one_below (lowest_of s)) m) lent p
    go none = refl
    go (some i) = refl

-- none of the five, as the code tests it
abbrev is_none : ℕ → Bool
is_none k = (((not (eqb k 9) && not (eqb k 12)) && not (eqb k 5)) && not (eqb k 6)) && not (eqb k 21)

kind_is : (k : ℕ) (s : Session) (m : Message) (lent : List ℕ) → is_none k ≡ false → kind_begins s k m lent ≡ begins s (started_by k 0) m lent
unfolding operation_by centre_starts command_of commands place_in
kind_is k s m lent = go (eqb k 9) (eqb k 12) (eqb k 5) (eqb k 6) (eqb k 21) refl refl refl refl refl
  where
    at : (n : ℕ) → eqb k n ≡ true → kind_begins s n m lent ≡ begins s (started_by n 0) m lent → kind_begins s k m lent ≡ begins s (started_by k 0) m lent
    at n e h = subst (λ (j : ℕ). kind_begins s j m lent ≡ begins s (started_by j 0) m lent) (sym (eqb-true k n e)) h

    go : (a b c d f : Bool) → eqb k 9 ≡ a → eqb k 12 ≡ b → eqb k 5 ≡ c → eqb k 6 ≡ d → eqb k 21 ≡ f → (((not a && not b) && not c) && not d) && not f ≡ false
        → kind_begins s k m lent ≡ begins s (started_by k 0) m lent
    go true b c d f p q r t u e = at 9 p (begin_any s (record { start = 9; rsp = 10; cmp = 11 }) m lent)
    go false true c d f p q r t u e = at 12 q (begin_any s (record { start = 12; rsp = 2; cmp = 13 }) m lent)
    go false false true d f p q r t u e = at 5 r (begin_any s (record { start = 5; rsp = 15; cmp = 16 }) m lent)
    go false false false true f p q r t u e = at 6 t (begin_any s (record { start = 6; rsp = 17; cmp = 18 }) m lent)
    go false false false false true p q r t u e = at 21 u (begin_any s (record { start = 21; rsp = 22; cmp = 23 }) m lent)
    go false false false false false p q r t u e = true_false e

kind_none : (k : ℕ) (s : Session) (m : Message) (lent : List ℕ) → is_none k ≡ true → kind_begins s k m lent ≡ Outcome.refused refusal.State
unfolding operation_by centre_starts command_of commands place_in
kind_none k s m lent e =
    let a = both (((not (eqb k 9) && not (eqb k 12)) && not (eqb k 5)) && not (eqb k 6)) (not (eqb k 21)) e in
    let b = both ((not (eqb k 9) && not (eqb k 12)) && not (eqb k 5)) (not (eqb k 6)) a.0 in
    let c = both (not (eqb k 9) && not (eqb k 12)) (not (eqb k 5)) b.0 in
    let d = both (not (eqb k 9)) (not (eqb k 12)) c.0 in
    simp (other 9 d.0, other 12 d.1, other 5 c.1, other 6 b.1, other 21 a.1)
  where
    other : (n : ℕ) → not (eqb k n) ≡ true → eqb n k ≡ false
    other n e = ne_eqb n k (λ p. eqb-false k n (unset (eqb k n) e) (sym p))

module _ (d room : List ℕ) (b : Body) (lent : List ℕ) (k : ℕ) (e : k ≡ command_in b) where
  abbrev begun : ℕ → Outcome
  begun j = kind_begins (session_at d) j (unnumbered b) lent

  pub begin_kind : (c : Called) → is_none k ≡ false → c ≡ called_by d room (begins (session_at d) (started_by k 0) (unnumbered b) lent) → c ≡ called_by d room (begun (command_in b))
  begin_kind c f p = by_outcome d room c _ (begun (command_in b)) p (ap begun (sym e) ∙ kind_is k (session_at d) (unnumbered b) lent f)

  pub begin_none : (r : Answer) → is_none k ≡ true → r ≡ refused_as refusal.State → ◌≡◌ {A = Called} (called r d room) (called_by d room (begun (command_in b)))
  begin_none r f p = refused_call d room (begun (command_in b)) r refusal.State p (ap begun (sym e) ∙ kind_none k (session_at d) (unnumbered b) lent f)

pub ruleset issues = (issue_last, below_fits, issue_next, begin_kind, begin_none)
