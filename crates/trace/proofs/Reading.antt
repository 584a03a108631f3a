-- A record and a start as they are read: each law in the shape of a need of the code. The tests that led there give the case of the definition.
-- Assumes nothing.
use mathlib.Core.{Path.◌≡◌, Path.refl, Path.sym, Path.◌∙◌, List.List}
use mathlib.Core.Bool.{Bool, true, false, not, ◌&&◌, ◌||◌}
use Prim.Native.Nat.{ℕ, ◌+◌, ◌-◌, ◌≤◌, ◌<◌}
use native.Mathlib.Omega.{arith}
use lib.{Dec.eqb, Dec.leb, Dec.ltb, ListN.length, ListN.take, ListN.drop}
use borrow.Author.Tests.{le-ltb, le-leb, lt-leb, eq-eqb, ne_eqb, leb-true, ltb-false, eqb-true, not-true, not-false}
use Rattle.std.specs.Prelude.{Result, Ok, Err, IsErrAnd}
use Rattle.octets.proofs.{Ranges.same_test, Ranges.true_false, Truth.neither}
use Rattle.std.specs.Prelude.{Ok, Err}
use Rattle.refusal.specs.declared.Refusal.{Refusal}
use Rattle.frame.specs.Frame.{Framed, frame_refusal, framed_of}
use Rattle.frame.proofs.Format.{fits, refused_number}
use Rattle.refusal.specs.declared.Refusal.{Refusal, TheVariants.NotATrace, TheVariants.StationNumber, TheVariants.InputEnds, TheVariants.TimeSum, TheVariants.NotOneFrame}
use Rattle.groups.specs.declared.Number.{Number}
use Rattle.groups.specs.Groups.{number_at}
use Rattle.groups.proofs.{Inverse.within, Reading.given_up}
use Rattle.trace.specs.Record.{is_one_frame, is_frame_length, is_station, is_time, frame_at, length_at, station_at, entry_of, start_of}
use Rattle.trace.proofs.Stepping.{step_of, step_refused, step_failed, step_passed}

-- one whole frame, by the frame's answer
module _ (f : List ℕ) (r : Framed) (q : r ≡ framed_of f) where
  module _ (n : ℕ) (e : r ≡ Ok n) where
    whole : framed_of f ≡ Ok n
    whole = sym q ∙ e

    pub head_there : 12 ≤ length f
    head_there = omega (arith, fits f n whole)

    pub whole_is_one : eqb (length f - 12) n ≡ is_one_frame f
    unfolding is_one_frame
    whole_is_one =
        let h : 12 + n ≤ length f = fits f n whole in
        simp whole (same_test (eqb (length f - 12) n) (eqb (12 + n) (length f))
        (λ t. eq-eqb (12 + n) (length f) (omega (arith, eqb-true (length f - 12) n t)))
        (λ t. eq-eqb (length f - 12) n (omega (arith, eqb-true (12 + n) (length f) t))))

  pub refused_not_one : (k : Refusal) → r ≡ Err k → false ≡ is_one_frame f
  unfolding is_one_frame
  refused_not_one k e =
      let p : framed_of f ≡ Err k = sym q ∙ e in
      let h = refused_number f k p in
      simp (p, ne_eqb (frame_refusal (Err k)) 0 (λ z. omega arith))

pub ruleset frames = (head_there, whole_is_one, refused_not_one)

-- so many bytes from a place on
module _ (s : List ℕ) (gap station from size : ℕ) (h : from ≤ length s) where
  pub frame_cut : length s - from < size → Err InputEnds ≡ frame_at s gap station from size
  unfolding frame_at
  frame_cut l = simp (lt-leb (from + size) (length s) (omega arith))

  module _ (l : size ≤ length s - from) (b : Bool) (q : b ≡ is_one_frame (take (from + size - from) (drop from s))) where
    there : b ≡ is_one_frame (take size (drop from s))
    there = let e : from + size - from ≡ size = omega arith in rw e at q

    pub frame_other : not b ≡ true → Err NotOneFrame ≡ frame_at s gap station from size
    unfolding frame_at
    frame_other t = simp (le-leb (from + size) (length s) (omega arith), ← there, not-true b t)

    pub frame_read : not b ≡ false → Ok (record { gap = gap; station = station; from = from; size = size }) ≡ frame_at s gap station from size
    unfolding frame_at
    frame_read t = simp (le-leb (from + size) (length s) (omega arith), ← there, not-false b t)

-- a length under 13 or over 4,108
pub outside_length : (v : ℕ) → ltb v 13 || ltb 4108 v ≡ true → is_frame_length v ≡ false
outside_length v e = go (leb 13 v) (leb v 4108) refl refl
  where
    go : (t u : Bool) → leb 13 v ≡ t → leb v 4108 ≡ u → t && u ≡ false
    go false u p q = refl
    go true false p q = refl
    go true true p q =
        let f : ltb v 13 || ltb 4108 v ≡ false = simp (le-ltb v 13 (leb-true 13 v p), le-ltb 4108 v (leb-true v 4108 q)) in
        true_false (sym e ∙ f)

pub inside_length : (v : ℕ) → ltb v 13 || ltb 4108 v ≡ false → is_frame_length v ≡ true
inside_length v t =
    let p = neither (ltb v 13) (ltb 4108 v) t in
    simp (le-leb 13 v (ltb-false v 13 p.0), le-leb v 4108 (ltb-false 4108 v p.1))

-- a station, otherwise tested
pub station_small : (n : ℕ) → n < 64 → n ≤ 63
station_small n h = omega arith

pub station_over : (v : ℕ) → 63 < v → is_station v ≡ false
station_over v h = lt-leb v 63 h

pub station_known : (v : ℕ) → v ≤ 63 → is_station v ≡ true
station_known v h = le-leb v 63 h

-- a test by a call, passed and failed
pub test_passed : (b t : Bool) → b ≡ t → not b ≡ false → t ≡ true
test_passed b t q n = sym q ∙ not-false b n

pub test_failed : (b t : Bool) → b ≡ t → not b ≡ true → t ≡ false
test_failed b t q n = sym q ∙ not-true b n

pub one : (v : ℕ) → v ≡ 1 → eqb v 1 ≡ true
one v e = eq-eqb v 1 e

-- a number that a call answers, and what follows
module _ {A : Type 0} (m n : Result Number Refusal) (q : m ≡ n) (test : ℕ → Bool) (next : Number → Result A Refusal) (k : Refusal) where
  pub refused_step : (j : Refusal) → m ≡ Err j → (r : Result A Refusal) → IsErrAnd r (λ y. y ≡ j) → r ≡ step_of n test next k
  refused_step j e r h = given_up r j h ∙ sym (step_refused n test next k j (sym q ∙ e))

  module _ (o : Number) (e : m ≡ Ok o) where
    pub failed_step : test o.value ≡ false → Err k ≡ step_of n test next k
    failed_step t = sym (step_failed n test next k o (sym q ∙ e) t)

    pub passed_step : test o.value ≡ true → (r : Result A Refusal) → r ≡ next o → r ≡ step_of n test next k
    passed_step t r f = f ∙ sym (step_passed n test next k o (sym q ∙ e) t)

-- behind a number
module _ (s : List ℕ) (at : ℕ) (m : Result Number Refusal) (n : Number) (q : m ≡ number_at s at) (e : m ≡ Ok n) where
  pub behind_there : n.next ≤ length s
  behind_there = within s at n (sym q ∙ e)

  pub length_other : (gap station : ℕ) → ltb n.value 13 || ltb 4108 n.value ≡ true → Err NotOneFrame ≡ length_at s gap station at
  unfolding length_at
  length_other gap station t = failed_step m (number_at s at) q is_frame_length (λ o. frame_at s gap station o.next o.value) NotOneFrame n e (outside_length n.value t)

  pub station_other : (gap : ℕ) → 63 < n.value → Err StationNumber ≡ station_at s gap at
  unfolding station_at
  station_other gap t = failed_step m (number_at s at) q is_station (λ o. length_at s gap o.value o.next) StationNumber n e (station_over n.value t)

-- the first number
module _ (s : List ℕ) (m : Result Number Refusal) (n : Number) (q : m ≡ number_at s 0) (e : m ≡ Ok n) where
  pub time_over : (sum : ℕ) (b : Bool) → b ≡ is_time (sum + n.value) → not b ≡ true → Err TimeSum ≡ entry_of sum s
  unfolding entry_of
  time_over sum b t f = failed_step m (number_at s 0) q (λ v. is_time (sum + v)) (λ o. station_at s o.value o.next) TimeSum n e (test_failed b (is_time (sum + n.value)) t f)

  pub start_other : (n.value ≡ 1 → ⊥) → Err NotATrace ≡ start_of s
  unfolding start_of
  start_other f = failed_step m (number_at s 0) q (λ v. eqb v 1) (λ o. Ok o) NotATrace n e (ne_eqb n.value 1 f)

pub ruleset reading = (station_small, behind_there, frame_cut, frame_other, frame_read, length_other, station_other, time_over, start_other)
