-- The messages that a session sends are in their ranges: the replies are, whatever arrived, since their IDs and numbers have their types' widths, and
-- what the centre starts is judged before. So the writing of a step's message can be refused with 20 alone. Assumes nothing.
use mathlib.Core.{Path.◌≡◌, Path.refl, Path.sym, Option.Option, Option.some, Option.none}
use mathlib.Core.Bool.{Bool, true, false, ◌&&◌, ◌||◌}
use mathlib.Core.List.{List, [], ◌∷◌, ◌++◌}
use Prim.Native.Nat.{ℕ, zero, suc, ◌/◌, ◌%◌, ◌^◌, ◌<◌}
use native.Mathlib.Nat.{mod-lt}
use native.Mathlib.Omega.{arith}
use lib.Dec.{eqb, ltb, lit<}
use lib.{IntN.ℤ, IntN.pos, IntN.negsuc, Pow.are_bytes}
use mir.Syntax.{w64}
use mir.Val.{SFits}
use borrow.Author.Tests.{le-leb, lt-ltb}
use Rattle.octets.specs.{Bytes.big_bytes, Choice.either}
use Rattle.octets.proofs.{Digits.length_big, Ranges.true_is, Truth.both}
use Rattle.names.specs.Names.{commands, place_in, bytes, command_of}
use Rattle.field.specs.Judge.{in_range}
use Rattle.message.specs.Fields.{lists, list_in}
use Rattle.saying.specs.{Says.part_in, Fits.within}
use Rattle.record.specs.declared.{Sixteen.Sixteen, Message.Message}
use Rattle.record.specs.{Record.four_of, Record.sixteen_of, Record.command_in, Fits.first_fault, Fits.fault_in, Fits.fits}
use Rattle.record.specs.Says.{sixteen_bytes, is_bare, body_sayings, sayings_of}
use Rattle.record.proofs.Commands.{bare_past, bare_other, bare_list}
use Rattle.session.specs.{Session.State, Session.Session, Session.Host, Session.State.Waiting, Session.State.Connecting, Session.State.Open}
use Rattle.session.specs.{Place.same_id, Place.free_place, Place.entry_place}
use Rattle.session.specs.Kinds.{Operation, station_starts, centre_starts, operation_by}
use Rattle.session.specs.Arrive.{Outcome, is_below, highest_of, lowest_of, bare_of, det_rsp_of, con_rsp_with, rsp_of, resumes, in_waiting, in_connecting, starts, start_at, complete_at, respond_at, or_outcome, in_open, in_state, arrives}
use Rattle.session.specs.Centre.{one_below, last_id, under_id, begin_at, begins, kind_begins, if_open, centre_begins}
use Rattle.session.proofs.Cases.{by_test, by_result, by_choice, by_con}
use Rattle.session.proofs.Judged.{sixteen_long}
use Rattle.steps.specs.Code.Lies.{is_reply}

signed_in : (z : ℤ) → SFits w64 z → in_range 0x8000000000000000 0x7FFFFFFFFFFFFFFF z ≡ true
signed_in (pos n) h = le-leb n 0x7FFFFFFFFFFFFFFF (omega arith)
signed_in (negsuc k) h = le-leb (suc k) 0x8000000000000000 h.sfits

-- a number's bytes are bytes
big_are : (n x : ℕ) → are_bytes (big_bytes n x) ≡ true
unfolding big_bytes
big_are zero x = refl
big_are (suc n) x = rw (lt-ltb (x / 256 ^ n % 256) 256 (mod-lt (x / 256 ^ n) (lit< tt))) (big_are n x)

both_are : (a b : List ℕ) → are_bytes a ≡ true → are_bytes b ≡ true → are_bytes (a ++ b) ≡ true
both_are [] b p q = q
both_are (x ∷ a) b p q = let t = both (ltb x 256) (are_bytes a) p in rw t.0 (both_are a b t.1 q)

sixteen_are : (x : Sixteen) → are_bytes (sixteen_bytes x) ≡ true
unfolding sixteen_bytes
sixteen_are x = both_are (big_bytes 8 x.high) (big_bytes 8 x.low) (big_are 8 x.high) (big_are 8 x.low)

-- the replies, whatever is lent beside them
module _ (d : List ℕ) where
  module _ (z : ℤ) (h : SFits w64 z) where
    pub bare_fits : (c : ℕ) → is_bare c ≡ true → fits (bare_of c z) d ≡ true
    unfolding fault_in first_fault sayings_of body_sayings within part_in
    bare_fits c e = let t = true_is (is_bare c) (sym e) in rw (bare_list (bare_past c t) (bare_other c t)) (simp (e, signed_in z h))

    pub det_rsp_fits : (sign : ℕ) → fits (det_rsp_of z sign) d ≡ true
    unfolding fault_in first_fault sayings_of body_sayings within lists list_in part_in
    det_rsp_fits sign = simp (signed_in z h, length_big 4 sign, big_are 4 sign)

    pub rsp_fits : (sign c : ℕ) → is_reply c ≡ true → fits (rsp_of sign c z) d ≡ true
    unfolding command_of commands place_in
    rsp_fits sign c e = go (eqb c 4) e
      where
        go : (b : Bool) → b || is_bare c ≡ true → fits (either b (λ _. det_rsp_of z sign) (λ _. bare_of c z)) d ≡ true
        go true e = det_rsp_fits sign
        go false e = bare_fits c e

  pub con_rsp_fits : (eui : ℕ) (r : Bool) (u : Sixteen) → eui < 2 ^ 64 → fits (con_rsp_with eui r u) d ≡ true
  unfolding fault_in first_fault sayings_of body_sayings within lists list_in part_in
  con_rsp_fits eui r u h = simp (le-leb eui 0xFFFFFFFFFFFFFFFF (omega arith), sixteen_long u, sixteen_are u)

-- an outcome whose message, if it has one, may be written
abbrev pub Fitting : Outcome → Type 0
Fitting (Outcome.refused n) = Unit {0}
Fitting (Outcome.silent w t) = Unit {0}
Fitting (Outcome.replies w t m d) = fits m d ≡ true

-- a property of all operations of a list holds for the one that is found
abbrev Each : (Operation → Type 0) → List Operation → Type 0
Each P [] = Unit {0}
Each P (o ∷ os) = P o × Each P os

module _ (g : Operation → Outcome) (f : Operation → ℕ) (x : Outcome) (c : ℕ) (q : Fitting x) where
  chosen : (b : Bool) (o : Operation) (p : Option Operation) → Fitting (g o) → Fitting (or_outcome p g (λ _. x)) → Fitting (or_outcome (either b (λ _. some o) (λ _. p)) g (λ _. x))
  chosen true o p e r = e
  chosen false o p e r = r

  by_operation : (l : List Operation) → Each (λ o. Fitting (g o)) l → Fitting (or_outcome (operation_by f l c) g (λ _. x))
  unfolding operation_by
  by_operation [] e = q
  by_operation (o ∷ os) e = chosen (eqb (f o) c) o (operation_by f os c) e.0 (by_operation os e.1)

-- what the types of record and host say
pub record Able (m : Message) (h : Host) : Type 0 where
  pub id : SFits w64 m.op_id
  pub eui : h.sc_eui < 2 ^ 64

module _ (s : Session) (m : Message) (h : Host) (a : Able m h) where
  waiting : Fitting (in_waiting s m h)
  unfolding in_waiting
  waiting =
      by_con Fitting m.body _ _
      (λ x e. by_test Fitting (same_id m.op_id (pos 0)) _ _
      (by_test Fitting (eqb x.version.value.major 1 && eqb x.version.value.minor 0) _ _
      (by_test Fitting (resumes s x) _ _ (con_rsp_fits [] h.sc_eui true (sixteen_of s.sn_sc_uuid) a.eui) (con_rsp_fits [] h.sc_eui false (sixteen_of h.uuid) a.eui)) tt) tt) tt

  connecting : (c : ℕ) (z : ℤ) → Fitting (in_connecting s c z)
  unfolding in_connecting
  connecting c z = by_test Fitting (eqb c (command_of (bytes "conCmp")) && same_id z (pos 0)) _ _ tt tt

  module _ (z : ℤ) (f : SFits w64 z) where
    at_start : (sign : ℕ) (o : Operation) (p : Option ℕ) → is_reply o.rsp ≡ true → Fitting (start_at s sign o z p)
    at_start sign o none e = tt
    at_start sign o (some i) e = rsp_fits [] z f sign o.rsp e

    at_cmp : (p : Option ℕ) → Fitting (complete_at s p)
    at_cmp none = tt
    at_cmp (some i) = tt

    at_rsp : (o : Operation) (p : Option ℕ) → is_bare o.cmp ≡ true → Fitting (respond_at s o z p)
    at_rsp o none e = tt
    at_rsp o (some i) e = bare_fits [] z f o.cmp e

    started : (sign : ℕ) (o : Operation) → is_reply o.rsp ≡ true → Fitting (starts s sign o z)
    started sign o e = by_test Fitting (is_below (highest_of s) z) _ _ (at_start sign o (free_place s.station) e) tt

    answered : (o : Operation) → is_bare o.cmp ≡ true → Fitting (respond_at s o z (entry_place z o.start s.centre))
    answered o e = at_rsp o (entry_place z o.start s.centre) e

    all_started : (sign : ℕ) → Each (λ o. Fitting (starts s sign o z)) station_starts
    unfolding station_starts command_of commands place_in
    all_started sign =
        (started sign (record { start = 9; rsp = 10; cmp = 11 }) refl, (started sign (record { start = 3; rsp = 4; cmp = 14 }) refl, (started sign (record { start = 7; rsp = 19; cmp = 20 }) refl, tt)))

    all_answered : Each (λ o. Fitting (respond_at s o z (entry_place z o.start s.centre))) centre_starts
    unfolding centre_starts command_of commands place_in
    all_answered =
        (answered (record { start = 9; rsp = 10; cmp = 11 }) refl, (answered (record { start = 12; rsp = 2; cmp = 13 }) refl, (answered (record { start = 5; rsp = 15; cmp = 16 }) refl, (answered (record { start = 6; rsp = 17; cmp = 18 }) refl, (answered (record { start = 21; rsp = 22; cmp = 23 }) refl, tt)))))

    operating : (sign c : ℕ) → Fitting (in_open s sign c z)
    unfolding in_open
    operating sign c =
        by_operation _ (λ o. o.start) _ c
        (by_choice Fitting (operation_by (λ o. o.cmp) station_starts c) _ _ (λ o. at_cmp (entry_place z o.start s.station))
        (by_operation _ (λ o. o.rsp) _ c tt centre_starts all_answered))
        station_starts (all_started sign)

  in_state_lem : (x : State) → Fitting (in_state x s m h)
  in_state_lem Waiting = waiting
  in_state_lem Connecting = connecting (command_in m.body) m.op_id
  in_state_lem Open = operating m.op_id a.id (four_of h.sign) (command_in m.body)

  pub replies_fit : (d : List ℕ) → Fitting (arrives s m d h)
  unfolding arrives
  replies_fit d = by_test Fitting (fits m d) _ _ (in_state_lem s.state) tt

-- what the centre starts is judged before it is written
module _ (s : Session) (m : Message) (d : List ℕ) where
  at_begin : (o : Operation) (z : ℤ) (u : Message) (p : Option ℕ) → Fitting (begin_at s o z u d p)
  at_begin o z u none = tt
  at_begin o z u (some i) = by_result Fitting (fits u d) _ _ (λ e. e) (λ e. tt)

  begun : (o : Operation) → Fitting (begins s o m d)
  begun o = by_test Fitting (same_id (lowest_of s) last_id) _ _ tt (at_begin o (one_below (lowest_of s)) (under_id (one_below (lowest_of s)) m) (free_place s.centre))

  by_state : (x : State) → Fitting (if_open x (λ _. kind_begins s (command_in m.body) m d))
  by_state Waiting = tt
  by_state Connecting = tt
  by_state Open = by_choice Fitting (operation_by (λ o. o.start) centre_starts (command_in m.body)) _ _ begun tt

  pub begins_fit : Fitting (centre_begins s m d)
  unfolding centre_begins
  begins_fit = by_state s.state
