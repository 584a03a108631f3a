-- An open session: what each branch of the code leaves is what the rule says, a command found by its number. Each law in the shape of a need of the
-- code. Assumes nothing.
use mathlib.Core.Path.{◌≡◌, refl, sym, ap, ◌∙◌}
use mathlib.Core.{Bool.true, Bool.false, Bool.not, List.List, Option.Option, Option.some, Option.none}
use Prim.Native.Nat.{ℕ, ◌<◌}
use lib.{IntN.ℤ, Signed.mag, Signed.le_z}
use mir.Syntax.{w64}
use mir.Val.{SFits, to_z, of_z}
use mir.ValLaws.{to_z-of_z}
use borrow.Author.Tests.{ne_eqb}
use Rattle.octets.specs.Choice.{either}
use Rattle.names.specs.Names.{commands, place_in, command_of}
use Rattle.session.specs.{Session.Session, Place.free_place, Place.entry_place, Image.session_at}
use Rattle.session.specs.Kinds.{Operation, station_starts, centre_starts, operation_by}
use Rattle.session.specs.Arrive.{Outcome, is_below, highest_of, starts, start_at, complete_at, respond_at, in_open}
use Rattle.steps.specs.Code.Lies.{started_by, ended_by}
use Rattle.steps.specs.Called.{Answer, Called, called, refused_as, called_by}
use Rattle.steps.proofs.{Tests.unset, Tests.set_is, Calls.by_outcome, Calls.refused_call, Knowing.le_kept, Knowing.result_bits}
use Rattle.refusal.specs.declared.Refusal.TheVariants as refusal

-- a station's start: late or timely, by the highest ID known, x
module _ (d room : List ℕ) (sign start answer : ℕ) (z : ℤ) (f : SFits w64 z) (x : ℤ) (g : mag x < 0x8000000000000000) (e : x ≡ highest_of (session_at d)) where
  abbrev start_of : ℤ → Outcome
  start_of y = starts (session_at d) sign (started_by start answer) y

  late_is : le_z (to_z w64 (of_z w64 z)) (to_z w64 (of_z w64 x)) ≡ not (is_below (highest_of (session_at d)) z)
  late_is = le_kept z x (highest_of (session_at d)) f.sfits (result_bits x (highest_of (session_at d)) g e) e

  pub start_late : (r : Answer) → le_z (to_z w64 (of_z w64 z)) (to_z w64 (of_z w64 x)) ≡ true → r ≡ refused_as refusal.IdOutOfOrder → ◌≡◌ {A = Called} (called r d room) (called_by d room (start_of z))
  start_late r t p = refused_call d room (start_of z) r refusal.IdOutOfOrder p (simp (unset (is_below (highest_of (session_at d)) z) (sym late_is ∙ t)))

  pub start_timely : (c : Called) → le_z (to_z w64 (of_z w64 z)) (to_z w64 (of_z w64 x)) ≡ false
      → c ≡ called_by d room (start_at (session_at d) sign (started_by start answer) (to_z w64 (of_z w64 z)) (free_place (session_at d).station)) → c ≡ called_by d room (start_of z)
  start_timely c t p =
      by_outcome d room c (at_place z) (start_of z) (p ∙ ap (λ (y : ℤ). called_by d room (at_place y)) (to_z-of_z w64 z f)) (simp (set_is (is_below (highest_of (session_at d)) z) (sym late_is ∙ t)))
    where
      at_place : ℤ → Outcome
      at_place y = start_at (session_at d) sign (started_by start answer) y (free_place (session_at d).station)

-- what a command does in an open session: a start with its Rsp, a Cmp of a start, a Rsp of a start with its Cmp
pub record Starts (n a : ℕ) : Type 0 where
  pub is : (s : Session) (sign : ℕ) (z : ℤ) → in_open s sign n z ≡ starts s sign (started_by n a) z

pub record Completes (n k : ℕ) : Type 0 where
  pub is : (s : Session) (sign : ℕ) (z : ℤ) → in_open s sign n z ≡ complete_at s (entry_place z k s.station)

pub record Answers (n k a : ℕ) : Type 0 where
  pub is : (s : Session) (sign : ℕ) (z : ℤ) → in_open s sign n z ≡ respond_at s (ended_by k a) z (entry_place z k s.centre)

-- the part of an operation that is not looked at
start_any : (s : Session) (sign : ℕ) (o : Operation) (z : ℤ) → starts s sign o z ≡ starts s sign (started_by o.start o.rsp) z
start_any s sign o z = ap (λ (x : Outcome). either (is_below (highest_of s) z) (λ _. x) (λ _. Outcome.refused refusal.IdOutOfOrder)) (go (free_place s.station))
  where
    go : (p : Option ℕ) → start_at s sign o z p ≡ start_at s sign (started_by o.start o.rsp) z p
    go none = refl
    go (some i) = refl

answer_any : (s : Session) (o : Operation) (z : ℤ) → respond_at s o z (entry_place z o.start s.centre) ≡ respond_at s (ended_by o.start o.cmp) z (entry_place z o.start s.centre)
answer_any s o z = go (entry_place z o.start s.centre)
  where
    go : (p : Option ℕ) → respond_at s o z p ≡ respond_at s (ended_by o.start o.cmp) z p
    go none = refl
    go (some i) = refl

-- all that an open session knows
pub record Known : Type 0 where
  pub ping : Starts 9 10
  pub det : Starts 3 4
  pub ul_data : Starts 7 19
  pub ping_cmp : Completes 11 9
  pub det_cmp : Completes 14 3
  pub ul_data_cmp : Completes 20 7
  pub ping_rsp : Answers 10 9 11
  pub status_rsp : Answers 2 12 13
  pub att_prp_rsp : Answers 15 5 16
  pub det_prp_rsp : Answers 17 6 18
  pub dl_data_que_rsp : Answers 22 21 23

pub known : Known
unfolding in_open operation_by station_starts centre_starts command_of commands place_in
known = record {
  ping = record { is = λ s g z. start_any s g (record { start = 9; rsp = 10; cmp = 11 }) z };
  det = record { is = λ s g z. start_any s g (record { start = 3; rsp = 4; cmp = 14 }) z };
  ul_data = record { is = λ s g z. start_any s g (record { start = 7; rsp = 19; cmp = 20 }) z };
  ping_cmp = record { is = λ s g z. refl };
  det_cmp = record { is = λ s g z. refl };
  ul_data_cmp = record { is = λ s g z. refl };
  ping_rsp = record { is = λ s g z. answer_any s (record { start = 9; rsp = 10; cmp = 11 }) z };
  status_rsp = record { is = λ s g z. answer_any s (record { start = 12; rsp = 2; cmp = 13 }) z };
  att_prp_rsp = record { is = λ s g z. answer_any s (record { start = 5; rsp = 15; cmp = 16 }) z };
  det_prp_rsp = record { is = λ s g z. answer_any s (record { start = 6; rsp = 17; cmp = 18 }) z };
  dl_data_que_rsp = record { is = λ s g z. answer_any s (record { start = 21; rsp = 22; cmp = 23 }) z };
}

module _ (d room : List ℕ) (sign command n : ℕ) (z : ℤ) (f : SFits w64 z) (e : command ≡ n) where
  by_command : (g : ℤ → Outcome) → ((y : ℤ) → in_open (session_at d) sign n y ≡ g y) → called_by d room (g (to_z w64 (of_z w64 z))) ≡ called_by d room (in_open (session_at d) sign command z)
  by_command g k = ap (λ (y : ℤ). called_by d room (g y)) (to_z-of_z w64 z f) ∙ ap (called_by d room) (sym (ap (λ (c : ℕ). in_open (session_at d) sign c z) e ∙ k z))

  pub open_start : (a : ℕ) (c : Called) → c ≡ called_by d room (starts (session_at d) sign (started_by n a) (to_z w64 (of_z w64 z))) → Starts n a → c ≡ called_by d room (in_open (session_at d) sign command z)
  open_start a c p k = p ∙ by_command (starts (session_at d) sign (started_by n a)) (k.is (session_at d) sign)

  pub open_complete : (k : ℕ) (r : Answer) (i : List ℕ) → Completes n k
      → ((any : List ℕ) → ◌≡◌ {A = Called} (called r i any) (called_by d any (complete_at (session_at d) (entry_place (to_z w64 (of_z w64 z)) k (session_at d).station))))
      → ◌≡◌ {A = Called} (called r i room) (called_by d room (in_open (session_at d) sign command z))
  open_complete k r i h p = p room ∙ by_command (λ y. complete_at (session_at d) (entry_place y k (session_at d).station)) (h.is (session_at d) sign)

  pub open_answer : (k a : ℕ) (c : Called) → c ≡ called_by d room (respond_at (session_at d) (ended_by k a) (to_z w64 (of_z w64 z)) (entry_place (to_z w64 (of_z w64 z)) k (session_at d).centre)) → Answers n k a
      → c ≡ called_by d room (in_open (session_at d) sign command z)
  open_answer k a c p h = p ∙ by_command (λ y. respond_at (session_at d) (ended_by k a) y (entry_place y k (session_at d).centre)) (h.is (session_at d) sign)

pub open_none : (d room : List ℕ) (sign c : ℕ) (z : ℤ) (r : Answer)
    → (c ≡ 9 → ⊥) → (c ≡ 3 → ⊥) → (c ≡ 7 → ⊥) → (c ≡ 11 → ⊥) → (c ≡ 14 → ⊥) → (c ≡ 20 → ⊥) → (c ≡ 10 → ⊥) → (c ≡ 2 → ⊥) → (c ≡ 15 → ⊥) → (c ≡ 17 → ⊥) → (c ≡ 22 → ⊥)
    → r ≡ refused_as refusal.State → ◌≡◌ {A = Called} (called r d room) (called_by d room (in_open (session_at d) sign c z))
unfolding in_open operation_by station_starts centre_starts command_of commands place_in
open_none d room sign c z r a b e f g h i j k l m p =
    refused_call d room (in_open (session_at d) sign c z) r refusal.State p
    (simp (ne_eqb 9 c (λ q. a (sym q)), ne_eqb 3 c (λ q. b (sym q)), ne_eqb 7 c (λ q. e (sym q)), ne_eqb 11 c (λ q. f (sym q)), ne_eqb 14 c (λ q. g (sym q)), ne_eqb 20 c (λ q. h (sym q)), ne_eqb 10 c (λ q. i (sym q)), ne_eqb 2 c (λ q. j (sym q)), ne_eqb 15 c (λ q. k (sym q)), ne_eqb 17 c (λ q. l (sym q)), ne_eqb 22 c (λ q. m (sym q))))

pub ruleset operations = (start_late, start_timely, open_start, open_complete, open_answer, open_none)
