-- The ways of a turn over enrolments: a row is taken, a meter is refused, more is waited for, the file ends, or it ends inside an enrolment. Assumes nothing.
use mathlib.Core.Path.{◌≡◌, refl, sym, ap, subst}
use mathlib.Core.Bool.{Bool, true, false, and-false}
use mathlib.Core.List.{List, [], ◌∷◌}
use Prim.Native.Nat.{ℕ, suc, ◌≤◌, ◌<◌}
use native.Mathlib.Omega.{arith}
use lib.{Dec.leb, Dec.eqb, ListN.length}
use borrow.Author.Tests.{le-leb, lt-leb, leb-true, leb-false, ne_eqb}
use Rattle.std.specs.Prelude.{Ok, Err}
use Rattle.refusal.specs.{declared.Refusal.Refusal, Number.number_of}
use Rattle.meters.specs.Answers.{Found}
use Rattle.meters.specs.Columns.{Columns}
use Rattle.turns.specs.Turns.{Turn}
use Rattle.day.specs.Turn.{passes, stops, finishes, refuses, refuses_between, leaving}
use Rattle.day.specs.Enrolments.{enrolment_size, enrolment_of, enrolled_by, enrol_turn, EnrolTurn}

pub data EnrolWay : Bool → Columns → List ℕ → Turn Columns → Type 0 where
  taken : (last : Bool) (c : Columns) (s : List ℕ) (i : ℕ) → enrolment_size ≤ length s → (enrolment_of s c).answer ≡ Ok i
      → EnrolWay last c s (leaving (enrolment_of s c).columns (passes enrolment_size []))
  refused : (last : Bool) (c : Columns) (s : List ℕ) (r : Refusal) → enrolment_size ≤ length s → (enrolment_of s c).answer ≡ Err r
      → EnrolWay last c s (leaving (enrolment_of s c).columns (stops (number_of r)))
  wait : (c : Columns) (s : List ℕ) → length s < enrolment_size → EnrolWay false c s (leaving c (passes 0 []))
  end : (c : Columns) → EnrolWay true c [] (leaving c finishes)
  cut : (c : Columns) (s : List ℕ) → (s ≡ [] → ⊥) → length s < enrolment_size → EnrolWay true c s (leaving c (stops 33))

-- bytes that are some have a length
pub some_long : (s : List ℕ) → (s ≡ [] → ⊥) → length s ≡ 0 → ⊥
some_long [] f z = f refl
some_long (b ∷ s) f z = omega arith

pub some_bytes : (b : ℕ) (s : List ℕ) → b ∷ s ≡ [] → ⊥
some_bytes b s e = let z : suc (length s) ≡ 0 = ap length e in omega arith

-- each way is the turn
way_is : (last : Bool) (c : Columns) (s : List ℕ) (t : Turn Columns) → EnrolWay last c s t → enrol_turn last c s ≡ t
unfolding enrol_turn enrolled_by refuses_between refuses
way_is last c s t (EnrolWay.taken l d g i h e) = simp (le-leb 14 (length s) h, e)
way_is last c s t (EnrolWay.refused l d g n h e) = simp (le-leb 14 (length s) h, e)
way_is last c s t (EnrolWay.wait d g h) = simp (lt-leb 14 (length s) h, and-false (eqb (length s) 0))
way_is last c s t (EnrolWay.end d) = refl
way_is last c s t (EnrolWay.cut d g f h) = simp (lt-leb 14 (length s) h, ne_eqb (length s) 0 (some_long s f))

pub enrol_way_turn : (last : Bool) (c : Columns) (s : List ℕ) (t : Turn Columns) → EnrolWay last c s t → EnrolTurn last c s t
enrol_way_turn last c s t w = subst (λ (u : Turn Columns). EnrolTurn last c s u) (way_is last c s t w) (EnrolTurn.turn last c s)

-- and each turn goes one of them
way_all : (last : Bool) (c : Columns) (s : List ℕ) → (t : Turn Columns) × EnrolWay last c s t
way_all last c s = go (leb 14 (length s)) refl
  where
    short : (l : Bool) (g : List ℕ) → length g < 14 → (t : Turn Columns) × EnrolWay l c g t
    short false g h = (_, EnrolWay.wait c g h)
    short true [] h = (_, EnrolWay.end c)
    short true (b ∷ g) h = (_, EnrolWay.cut c (b ∷ g) (some_bytes b g) h)

    long : 14 ≤ length s → (a : Found) → (enrolment_of s c).answer ≡ a → (t : Turn Columns) × EnrolWay last c s t
    long h (Ok i) e = (_, EnrolWay.taken last c s i h e)
    long h (Err n) e = (_, EnrolWay.refused last c s n h e)

    go : (b : Bool) → leb 14 (length s) ≡ b → (t : Turn Columns) × EnrolWay last c s t
    go true q = long (leb-true 14 (length s) q) (enrolment_of s c).answer refl
    go false q = short last s (leb-false 14 (length s) q)

pub enrol_turn_way : (last : Bool) (c : Columns) (s : List ℕ) (t : Turn Columns) → EnrolTurn last c s t → EnrolWay last c s t
enrol_turn_way last c s t (EnrolTurn.turn l d g) =
    let w = way_all last c s in
    subst (λ (u : Turn Columns). EnrolWay last c s u) (sym (way_is last c s w.0 w.1)) w.1
