-- A turn over enrolments: too few bytes, a row taken, or a refusal. Assumes nothing.
use mathlib.Core.{Path.◌≡◌, Path.sym, Path.ap, Path.◌∙◌, List.List}
use mathlib.Core.Bool.{Bool, false}
use Prim.Native.Nat.{ℕ, ◌+◌, ◌≤◌, ◌<◌}
use native.Mathlib.Omega.{arith}
use lib.{ListN.length}
use borrow.Author.Tests.{le-leb, lt-leb}
use Rattle.octets.specs.Number.{big_at, if_there}
use Rattle.forms.specs.Code.Put.{put}
use Rattle.std.specs.Prelude.{Ok, Err}
use Rattle.refusal.specs.{declared.Refusal.Refusal, declared.Refusal.TheVariants.InputEnds, Number.number_of}
use Rattle.meters.specs.Answers.{Found}
use Rattle.meters.specs.Columns.{Columns, told_place, enrol_on}
use Rattle.lines.specs.{Turn.Shows, declared.Took.Took}
use Rattle.lines.proofs.Texts.{none_put}
use Rattle.turns.specs.Turns.{Turn}
use Rattle.day.specs.declared.Enrolment.{Enrolment}
use Rattle.day.specs.{Turn.stops, Turn.refuses_between, Turn.shown_by, Enrolments.enrolled_by, Enrolments.enrol_turn, Code.Meter.enrol_meter}

module _ (c : Columns) (eui short counter : ℕ) (a : Found) (g : Columns) (t : told_place a g ≡ enrol_on c eui short counter) where
  meter_as : enrol_meter c eui short counter ≡ enrolled_by a g
  unfolding enrol_meter
  meter_as = λ i. enrolled_by (sym t i).answer (sym t i).columns

  pub meter_keeps : g ≡ (enrol_meter c eui short counter).state
  unfolding enrolled_by
  meter_keeps = go a meter_as
    where
      go : (b : Found) → enrol_meter c eui short counter ≡ enrolled_by b g → g ≡ (enrol_meter c eui short counter).state
      go (Ok i) o = sym (ap (λ (x : Turn Columns). x.state) o)
      go (Err n) o = sym (ap (λ (x : Turn Columns). x.state) o)

  pub taken_shows : (i : ℕ) → a ≡ Ok i → (d : List ℕ) (r : Took) → r ≡ record { used = 14; length = 0; ended = false } → Shows (shown_by (enrol_meter c eui short counter)) d d r
  unfolding enrolled_by
  taken_shows i e d r o =
      rw meter_as (rw e (record { used = ap (λ (x : Took). x.used) o; ended = ap (λ (x : Took). x.ended) o; printed = ap (λ (x : Took). put d x.length) o ∙ none_put (put d 0) }))

  pub refused_shows : (n : Refusal) → a ≡ Err n → (d e : List ℕ) (r : Took) → Shows (stops (number_of n)) d e r → Shows (shown_by (enrol_meter c eui short counter)) d e r
  unfolding enrolled_by
  refused_shows n f d e r h = rw meter_as (rw f h)

pub ruleset enrolling_meter = (meter_keeps, taken_shows, refused_shows)

module _ (last : Bool) (c : Columns) (s : List ℕ) where
  module _ (l : length s < 14) where
    pub cut_shows : (d e : List ℕ) (r : Took) → Shows (refuses_between last (length s) InputEnds) d e r → Shows (shown_by (enrol_turn last c s)) d e r
    unfolding enrol_turn
    cut_shows d e r h = simp (lt-leb 14 (length s) l) h

    pub cut_keeps : c ≡ (enrol_turn last c s).state
    unfolding enrol_turn
    cut_keeps = simp (lt-leb 14 (length s) l)

  module _ (l : 14 ≤ length s) (m : Enrolment) (q : m ≡ record { eui = big_at s 0 8; short = big_at s 8 2; counter = big_at s 10 4 }) where
    turn_as : enrol_turn last c s ≡ enrol_meter c m.eui m.short m.counter
    unfolding enrol_turn enrol_meter
    turn_as = rw q (simp (le-leb 14 (length s) l))

    pub whole_shows : (d e : List ℕ) (r : Took) → Shows (shown_by (enrol_meter c m.eui m.short m.counter)) d e r → Shows (shown_by (enrol_turn last c s)) d e r
    whole_shows d e r h = rw turn_as h

    pub whole_keeps : (g : Columns) → g ≡ (enrol_meter c m.eui m.short m.counter).state → g ≡ (enrol_turn last c s).state
    whole_keeps g h = rw turn_as h

-- a number is there, and so are the three
there : (s : List ℕ) (at n v : ℕ) → n ≤ 8 → at + n ≤ length s → v ≡ if_there s at n (big_at s at n) → v ≡ big_at s at n
there s at n v h l q = simp (le-leb n 8 h, le-leb (at + n) (length s) l) at q

pub numbers_there : (s : List ℕ) → 14 ≤ length s → (eui short counter : ℕ) → eui ≡ if_there s 0 8 (big_at s 0 8) → short ≡ if_there s 8 2 (big_at s 8 2) → counter ≡ if_there s 10 4 (big_at s 10 4)
    → ◌≡◌ {A = Enrolment} (record { eui = eui; short = short; counter = counter }) (record { eui = big_at s 0 8; short = big_at s 8 2; counter = big_at s 10 4 })
numbers_there s l eui short counter p q u =
    λ i. record { eui = there s 0 8 eui (omega arith) (omega arith) p i; short = there s 8 2 short (omega arith) (omega arith) q i; counter = there s 10 4 counter (omega arith) l u i }

pub ruleset enrolling = (cut_shows, cut_keeps, whole_shows, whole_keeps)
