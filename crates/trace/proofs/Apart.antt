-- A record that is read, taken apart: its three numbers, one behind the other, the tests that they passed, and its frame. And put together: what
-- has these parts is what is read. Assumes nothing.
use mathlib.Core.{Path.◌≡◌, Path.sym, Path.subst, Path.◌∙◌, Bool.Bool, Bool.true, List.List}
use Prim.Native.Nat.{ℕ, ◌+◌, ◌≤◌}
use lib.ListN.{length}
use Rattle.std.specs.Prelude.{Result, Ok}
use Rattle.refusal.specs.declared.Refusal.{Refusal, TheVariants.StationNumber, TheVariants.TimeSum, TheVariants.NotOneFrame}
use Rattle.groups.specs.declared.Number.{Number}
use Rattle.groups.specs.Groups.{last_group, number_at}
use Rattle.groups.proofs.Goes.{ok_err}
use Rattle.trace.specs.declared.Entry.{Entry}
use Rattle.trace.specs.Record.{is_one_frame, is_frame_length, is_time, is_station, frame_at, length_at, station_at, entry_of, frame_of}
use Rattle.trace.proofs.Stepping.{ok_same, step_of, by_step, step_passed, entry_at, by_frame, frame_whole}

pub record Apart (sum : ℕ) (s : List ℕ) (e : Entry) : Type 0 where
  pub second : ℕ
  pub third : ℕ
  pub gap : number_at s 0 ≡ Ok (last_group e.gap second)
  pub time : is_time (sum + e.gap) ≡ true
  pub station : number_at s second ≡ Ok (last_group e.station third)
  pub known : is_station e.station ≡ true
  pub size : number_at s third ≡ Ok (last_group e.size e.from)
  pub sized : is_frame_length e.size ≡ true
  pub there : e.from + e.size ≤ length s
  pub frame : is_one_frame (frame_of s e) ≡ true

-- one number
record Passed (n : Result Number Refusal) (test : ℕ → Bool) (next : Number → Result Entry Refusal) (e : Entry) : Type 0 where
  number : Number
  is : n ≡ Ok number
  tested : test number.value ≡ true
  same : Ok e ≡ next number

passed : (n : Result Number Refusal) (test : ℕ → Bool) (next : Number → Result Entry Refusal) (k : Refusal) (e : Entry) → Ok e ≡ step_of n test next k → Passed n test next e
passed n test next k e q =
    by_step n test next k (λ x. Ok e ≡ x → Passed n test next e)
    (λ j y p. absurd (ok_err p))
    (λ o y t p. absurd (ok_err p))
    (λ o y t p. record { number = o; is = y; tested = t; same = p })
    q

record Whole (s : List ℕ) (gap station from size : ℕ) (e : Entry) : Type 0 where
  there : from + size ≤ length s
  frame : is_one_frame (frame_of s (entry_at s gap station from size)) ≡ true
  same : entry_at s gap station from size ≡ e

whole : (s : List ℕ) (gap station from size : ℕ) (e : Entry) → Ok e ≡ frame_at s gap station from size → Whole s gap station from size e
whole s gap station from size e q =
    by_frame s gap station from size (λ x. Ok e ≡ x → Whole s gap station from size e)
    (λ l p. absurd (ok_err p))
    (λ l t p. absurd (ok_err p))
    (λ l t p. record { there = l; frame = t; same = sym (ok_same p) })
    q

goes : (n : Result Number Refusal) (test : ℕ → Bool) (next : Number → Result Entry Refusal) (k : Refusal) (v j : ℕ) → n ≡ Ok (last_group v j) → test v ≡ true → step_of n test next k ≡ next (last_group v j)
goes n test next k v j p t = step_passed n test next k (last_group v j) p t

module _ (sum : ℕ) (s : List ℕ) (e : Entry) where
  pub apart : entry_of sum s ≡ Ok e → Apart sum s e
  unfolding entry_of station_at length_at
  apart z =
      let a = passed (number_at s 0) (λ v. is_time (sum + v)) (λ n. station_at s n.value n.next) TimeSum e (sym z) in
      let g = a.number in
      let b = passed (number_at s g.next) is_station (λ n. length_at s g.value n.value n.next) StationNumber e a.same in
      let h = b.number in
      let c = passed (number_at s h.next) is_frame_length (λ n. frame_at s g.value h.value n.next n.value) NotOneFrame e b.same in
      let i = c.number in
      let w = whole s g.value h.value i.next i.value e c.same in
      subst (λ (e : Entry). Apart sum s e) w.same
      (record {
        second = g.next;
        third = h.next;
        gap = a.is;
        time = a.tested;
        station = b.is;
        known = b.tested;
        size = c.is;
        sized = c.tested;
        there = w.there;
        frame = w.frame;
      })

  pub together : Apart sum s e → entry_of sum s ≡ Ok e
  unfolding entry_of station_at length_at
  together p =
      goes (number_at s 0) (λ v. is_time (sum + v)) (λ n. station_at s n.value n.next) TimeSum e.gap p.second p.gap p.time
      ∙ goes (number_at s p.second) is_station (λ n. length_at s e.gap n.value n.next) StationNumber e.station p.third p.station p.known
      ∙ goes (number_at s p.third) is_frame_length (λ n. frame_at s e.gap e.station n.next n.value) NotOneFrame e.size e.from p.size p.sized
      ∙ frame_whole s e.gap e.station e.from e.size p.there p.frame
