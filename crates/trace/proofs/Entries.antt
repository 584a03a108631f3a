-- What a caller needs of a record that is read, and of a start: the number of a station, a sum that fits, and a frame that is there. Each law in
-- the shape of a caller's need, with the call's own equation as a premise. Assumes nothing.
use mathlib.Core.{Path.◌≡◌, Path.refl, Path.sym, Path.subst, Path.◌∙◌, List.List}
use mathlib.Core.Bool.{true}
use Prim.Native.Nat.{ℕ, suc, ◌+◌, ◌-◌, ◌^◌, ◌≤◌, ◌<◌}
use native.Mathlib.Omega.{arith}
use mir.Syntax.{w64}
use mir.Val.{Fits}
use lib.{Dec.eqb, Dec.leb, ListN.length, ListN.take, ListN.drop, ListN.length-drop, Seq.length-take-le}
use borrow.Author.Tests.{leb-true, ltb-true, eqb-true}
use Rattle.octets.proofs.Truth.{both}
use Rattle.std.specs.Prelude.{Result, Ok, IfOk}
use Rattle.refusal.specs.declared.Refusal.{Refusal, TheVariants.NotATrace}
use Rattle.groups.specs.declared.Number.{Number}
use Rattle.groups.specs.Groups.{last_group, number_at}
use Rattle.groups.proofs.{Ways.Way, Ways.way, Ways.on_way, Inverse.within, Inverse.forward, Inverse.near, Goes.ok_err}
use Rattle.trace.specs.declared.Entry.{Entry}
use Rattle.trace.specs.Record.{is_one_frame, entry_of, frame_of, start_of}
use Rattle.trace.specs.Trace.{end_of}
use Rattle.trace.proofs.Apart.{Apart, apart}
use Rattle.trace.proofs.Stepping.{by_step, ok_same}

module _ (sum : ℕ) (s : List ℕ) (a : Result Entry Refusal) (e : Entry) (q : a ≡ entry_of sum s) (z : a ≡ Ok e) where
  parts : Apart sum s e
  parts = apart sum s e (sym q ∙ z)

  pub station_below : e.station < 64
  station_below = omega (arith, leb-true e.station 63 parts.known)

  pub sum_fits : sum + e.gap < 2 ^ 64
  sum_fits = ltb-true (sum + e.gap) (2 ^ 64) parts.time

  pub frame_there : e.from + e.size ≤ length s
  frame_there = parts.there

  pub frame_forward : e.from ≤ e.from + e.size
  frame_forward = omega arith

  size_tests : (leb 13 e.size ≡ true) × (leb e.size 4108 ≡ true)
  size_tests = both (leb 13 e.size) (leb e.size 4108) parts.sized

  pub size_some : 13 ≤ e.size
  size_some = leb-true 13 e.size size_tests.0

  pub size_most : e.size ≤ 4108
  size_most = leb-true e.size 4108 size_tests.1

  pub frame_behind : 0 < e.from
  frame_behind =
      let p = parts in
      let h : p.third < e.from = forward s p.third (last_group e.size e.from) p.size in
      omega arith

  -- three numbers of at most ten bytes stand in front of it
  pub frame_near : e.from ≤ 30
  frame_near =
      let p = parts in
      let a : p.second ≤ 0 + 10 = near s 0 (last_group e.gap p.second) p.gap in
      let b : p.third ≤ p.second + 10 = near s p.second (last_group e.station p.third) p.station in
      let c : e.from ≤ p.third + 10 = near s p.third (last_group e.size e.from) p.size in
      omega arith

  pub end_fits : Fits w64 (e.from + e.size)
  end_fits = record { fits = omega (arith, frame_near, size_most) }

  pub sum_word : Fits w64 (sum + e.gap)
  sum_word = record { fits = omega (arith, sum_fits) }

  pub frame_is_one : is_one_frame (frame_of s e) ≡ true
  frame_is_one = parts.frame

  pub frame_long : length (frame_of s e) ≡ e.size
  frame_long = length-take-le e.size (drop e.from s) (omega (arith, length-drop e.from s, parts.there))

  -- as code cuts it out
  pub frame_cut : take (e.from + e.size - e.from) (drop e.from s) ≡ frame_of s e
  frame_cut = let n : e.from + e.size - e.from ≡ e.size = omega arith in rw n

pub ruleset entries = (station_below, sum_fits, frame_there, frame_forward, size_some, size_most, frame_behind, frame_near, end_fits, sum_word, frame_is_one, frame_long, frame_cut)

-- the same of the definition itself
module _ (sum : ℕ) (s : List ℕ) (e : Entry) (z : entry_of sum s ≡ Ok e) where
  pub read_station_below : e.station < 64
  read_station_below = station_below sum s (entry_of sum s) e refl z

  pub read_sum_fits : sum + e.gap < 2 ^ 64
  read_sum_fits = sum_fits sum s (entry_of sum s) e refl z

  pub read_frame_there : end_of e ≤ length s
  read_frame_there = frame_there sum s (entry_of sum s) e refl z

  pub read_size_some : 13 ≤ e.size
  read_size_some = size_some sum s (entry_of sum s) e refl z

  pub read_frame_behind : 0 < e.from
  read_frame_behind = frame_behind sum s (entry_of sum s) e refl z

  pub read_frame_is_one : is_one_frame (frame_of s e) ≡ true
  read_frame_is_one = frame_is_one sum s (entry_of sum s) e refl z

  pub read_frame_long : length (frame_of s e) ≡ e.size
  read_frame_long = frame_long sum s (entry_of sum s) e refl z

-- a number below 128 is one byte
small_one : (s : List ℕ) (more at : ℕ) (r : Result Number Refusal) → Way s more at r → IfOk r (λ o. o.value < 128 → o.next ≡ suc at)
small_one s more at r (Way.ended m k h) = tt
small_one s more at r (Way.over k h g) = tt
small_one s more at r (Way.bit k h g) = λ l. refl
small_one s more at r (Way.last m k h g) = λ l. refl
small_one s more at r (Way.refused m k x h g w) = tt
small_one s more at r (Way.longer m k o h g w y) = tt
small_one s more at r (Way.front m k o h g w y) = λ l. absurd (omega arith)

-- the first number is what is read of the start
pub start_number : (s : List ℕ) (n : Number) → start_of s ≡ Ok n → (number_at s 0 ≡ Ok n) × (n.value ≡ 1)
unfolding start_of
start_number s n =
    by_step (number_at s 0) (λ v. eqb v 1) (λ o. Ok o) NotATrace (λ r. r ≡ Ok n → (number_at s 0 ≡ Ok n) × (n.value ≡ 1))
    (λ j e z. absurd (ok_err (sym z)))
    (λ o e t z. absurd (ok_err (sym z)))
    (λ o e t z. (e ∙ z, eqb-true n.value 1 (subst (λ (m : Number). eqb m.value 1 ≡ true) (ok_same z) t)))

module _ (s : List ℕ) (a : Result Number Refusal) (n : Number) (q : a ≡ start_of s) (z : a ≡ Ok n) where
  first : (number_at s 0 ≡ Ok n) × (n.value ≡ 1)
  first = start_number s n (sym q ∙ z)

  pub start_one : n.value ≡ 1
  start_one = first.1

  pub start_next : n.next ≡ 1
  start_next = on_way s 9 0 (λ o. o.value < 128 → o.next ≡ suc 0) (small_one s 9 0 (number_at s 0) (way s 9 0)) n first.0 (omega (arith, first.1))

  pub start_there : n.next ≤ length s
  start_there = within s 0 n first.0

  pub start_forward : 0 < n.next
  start_forward = omega (arith, start_next)

module _ (s : List ℕ) (n : Number) (z : start_of s ≡ Ok n) where
  pub read_start_one : n.value ≡ 1
  read_start_one = start_one s (start_of s) n refl z

  pub read_start_next : n.next ≡ 1
  read_start_next = start_next s (start_of s) n refl z

  pub read_start_there : n.next ≤ length s
  read_start_there = start_there s (start_of s) n refl z
