-- Input that goes on. A record or a start that is read, or refused otherwise than by 33, stays so whatever follows; and with 4,138 bytes at hand
-- nothing is waited for: three numbers have at most ten bytes each, and a frame at most 4,108. Assumes nothing.
use mathlib.Core.{Path.◌≡◌, Path.refl, Path.sym, Path.ap, Path.◌∙◌, Bool.Bool, Bool.true}
use mathlib.Core.List.{List, [], ◌++◌}
use Prim.Native.Nat.{ℕ, suc, ◌+◌, ◌≤◌}
use native.Mathlib.Omega.{arith}
use lib.{Dec.leb, Dec.eqb, Seq.take-append-le, Seq.drop-append-le}
use lib.ListN.{length, take, drop, length-append, length-drop}
use borrow.Author.Tests.{leb-true}
use Rattle.octets.proofs.Truth.{both}
use Rattle.std.specs.Prelude.{Result, Ok, Err}
use Rattle.refusal.specs.declared.Refusal.{Refusal, TheVariants.NotATrace, TheVariants.StationNumber, TheVariants.InputEnds, TheVariants.TimeSum, TheVariants.NotOneFrame}
use Rattle.refusal.specs.Number.{number_of}
use Rattle.groups.specs.declared.Number.{Number}
use Rattle.groups.specs.Groups.{groups_at, number_at}
use Rattle.groups.proofs.{Ways.Way, Ways.way, Inverse.near, Goes.settled, Goes.ok_err, Goes.other_err}
use Rattle.trace.specs.declared.Entry.{Entry}
use Rattle.trace.specs.Record.{is_frame_length, is_time, is_station, frame_at, length_at, station_at, entry_of, frame_of, start_of}
use Rattle.trace.specs.Trace.{end_of}
use Rattle.trace.proofs.Stepping.{err_same, step_of, by_step, step_refused, step_failed, step_passed, by_frame, frame_strange, frame_whole}
use Rattle.trace.proofs.Entries.{read_frame_there, read_start_there}

module _ (s p : List ℕ) where
  -- a part that is there
  part_settled : (from size : ℕ) → from + size ≤ length s → take size (drop from (s ++ p)) ≡ take size (drop from s)
  part_settled from size h =
      ap (take size) (drop-append-le from s p (omega arith)) ∙ take-append-le size (drop from s) p (omega (arith, length-drop from s))

  -- one number
  step_settled : {A : Type 0} (at : ℕ) (test : ℕ → Bool) (next after : Number → Result A Refusal) (k : Refusal) → ((n : Number) → (next n ≡ Err InputEnds → ⊥) → after n ≡ next n)
      → (step_of (number_at s at) test next k ≡ Err InputEnds → ⊥) → step_of (number_at (s ++ p) at) test after k ≡ step_of (number_at s at) test next k
  step_settled {A} at test next after k more =
      by_step n test next k (λ e. (e ≡ Err InputEnds → ⊥) → step_of (number_at (s ++ p) at) test after k ≡ e)
      (λ j z f. same (λ y. f (ap (λ (r : Refusal). Err r) (err_same (sym z ∙ y)))) ∙ step_refused n test after k j z)
      (λ o z t f. same (λ y. ok_err (sym z ∙ y)) ∙ step_failed n test after k o z t)
      (λ o z t f. same (λ y. ok_err (sym z ∙ y)) ∙ step_passed n test after k o z t ∙ more o f)
    where
      n : Result Number Refusal
      n = number_at s at

      same : (n ≡ Err InputEnds → ⊥) → step_of (number_at (s ++ p) at) test after k ≡ step_of n test after k
      same f = ap (λ (m : Result Number Refusal). step_of m test after k) (settled s p at f)

  frame_at_settled : (gap station from size : ℕ) → (frame_at s gap station from size ≡ Err InputEnds → ⊥) → frame_at (s ++ p) gap station from size ≡ frame_at s gap station from size
  frame_at_settled gap station from size =
      by_frame s gap station from size (λ e. (e ≡ Err InputEnds → ⊥) → frame_at (s ++ p) gap station from size ≡ e)
      (λ l f. absurd (f refl))
      (λ l t f. frame_strange (s ++ p) gap station from size (more l) (rw (part_settled from size l) t))
      (λ l t f. frame_whole (s ++ p) gap station from size (more l) (rw (part_settled from size l) t))
    where
      more : from + size ≤ length s → from + size ≤ length (s ++ p)
      more l = omega (arith, length-append s p)

  length_settled : (gap station at : ℕ) → (length_at s gap station at ≡ Err InputEnds → ⊥) → length_at (s ++ p) gap station at ≡ length_at s gap station at
  unfolding length_at
  length_settled gap station at =
      step_settled at is_frame_length (λ n. frame_at s gap station n.next n.value) (λ n. frame_at (s ++ p) gap station n.next n.value) NotOneFrame
      (λ n. frame_at_settled gap station n.next n.value)

  station_settled : (gap at : ℕ) → (station_at s gap at ≡ Err InputEnds → ⊥) → station_at (s ++ p) gap at ≡ station_at s gap at
  unfolding station_at
  station_settled gap at =
      step_settled at is_station (λ n. length_at s gap n.value n.next) (λ n. length_at (s ++ p) gap n.value n.next) StationNumber
      (λ n. length_settled gap n.value n.next)

pub entry_settled : (sum : ℕ) (s p : List ℕ) → (entry_of sum s ≡ Err InputEnds → ⊥) → entry_of sum (s ++ p) ≡ entry_of sum s
unfolding entry_of
entry_settled sum s p =
    step_settled s p 0 (λ v. is_time (sum + v)) (λ n. station_at s n.value n.next) (λ n. station_at (s ++ p) n.value n.next) TimeSum
    (λ n. station_settled s p n.value n.next)

-- its frame, and what is behind it
module _ (sum : ℕ) (s p : List ℕ) (e : Entry) (z : entry_of sum s ≡ Ok e) where
  pub frame_settled : frame_of (s ++ p) e ≡ frame_of s e
  frame_settled = part_settled s p e.from e.size (read_frame_there sum s e z)

  pub rest_settled : drop (end_of e) (s ++ p) ≡ drop (end_of e) s ++ p
  rest_settled = drop-append-le (end_of e) s p (read_frame_there sum s e z)

-- a start
pub start_settled : (s p : List ℕ) → (start_of s ≡ Err InputEnds → ⊥) → start_of (s ++ p) ≡ start_of s
unfolding start_of
start_settled s p = step_settled s p 0 (λ v. eqb v 1) (λ n. Ok n) (λ n. Ok n) NotATrace (λ n f. refl)

pub start_rest_settled : (s p : List ℕ) (n : Number) → start_of s ≡ Ok n → drop n.next (s ++ p) ≡ drop n.next s ++ p
start_rest_settled s p n z = drop-append-le n.next s p (read_start_there s n z)

-- nothing at hand
pub empty_entry : (sum : ℕ) → entry_of sum [] ≡ Err InputEnds
unfolding entry_of groups_at
empty_entry sum = refl

pub empty_start : start_of [] ≡ Err InputEnds
unfolding start_of groups_at
empty_start = refl

-- a number ends within ten bytes
way_ends : (s : List ℕ) (more at : ℕ) (r : Result Number Refusal) → Way s more at r → r ≡ Err InputEnds → length s ≤ at + more
way_ends s more at r (Way.ended m k h) e = omega arith
way_ends s more at r (Way.over k h l) e = absurd (other_err (λ z. omega arith) e)
way_ends s more at r (Way.bit k h l) e = absurd (ok_err e)
way_ends s more at r (Way.last m k h l) e = absurd (ok_err e)
way_ends s more at r (Way.refused m k x h l w) e = omega (arith, way_ends s m (suc k) (Err x) w e)
way_ends s more at r (Way.longer m k o h l w y) e = absurd (other_err (λ z. omega arith) e)
way_ends s more at r (Way.front m k o h l w y) e = absurd (ok_err e)

-- so with enough bytes at hand nothing is waited for
module _ (s : List ℕ) where
  step_enough : {A : Type 0} (at : ℕ) (test : ℕ → Bool) (next : Number → Result A Refusal) (k : Refusal) → (number_of k ≡ 33 → ⊥) → at + 10 ≤ length s
      → ((n : Number) → n.next ≤ at + 10 → test n.value ≡ true → next n ≡ Err InputEnds → ⊥) → step_of (number_at s at) test next k ≡ Err InputEnds → ⊥
  step_enough {A} at test next k f h more =
      let n = number_at s at in
      by_step n test next k (λ e. e ≡ Err InputEnds → ⊥)
      (λ j z e. omega (arith, way_ends s 9 at n (way s 9 at) (z ∙ ap (λ (r : Refusal). Err r) (err_same e))))
      (λ o z t e. other_err f e)
      (λ o z t e. more o (near s at o z) t e)

  frame_enough : (gap station from size : ℕ) → from + size ≤ length s → frame_at s gap station from size ≡ Err InputEnds → ⊥
  frame_enough gap station from size h =
      by_frame s gap station from size (λ e. e ≡ Err InputEnds → ⊥) (λ l e. omega arith) (λ l t e. other_err (λ z. omega arith) e) (λ l t e. ok_err e)

  length_enough : (gap station at : ℕ) → at + 4118 ≤ length s → length_at s gap station at ≡ Err InputEnds → ⊥
  unfolding length_at
  length_enough gap station at h =
      step_enough at is_frame_length (λ n. frame_at s gap station n.next n.value) NotOneFrame (λ e. omega arith) (omega arith)
      (λ n l t. frame_enough gap station n.next n.value (omega (arith, leb-true n.value 4108 (both (leb 13 n.value) (leb n.value 4108) t).1)))

  station_enough : (gap at : ℕ) → at + 4128 ≤ length s → station_at s gap at ≡ Err InputEnds → ⊥
  unfolding station_at
  station_enough gap at h =
      step_enough at is_station (λ n. length_at s gap n.value n.next) StationNumber (λ e. omega arith) (omega arith)
      (λ n l t. length_enough gap n.value n.next (omega arith))

pub enough : (sum : ℕ) (s : List ℕ) → 4138 ≤ length s → entry_of sum s ≡ Err InputEnds → ⊥
unfolding entry_of
enough sum s h =
    step_enough s 0 (λ v. is_time (sum + v)) (λ n. station_at s n.value n.next) TimeSum (λ e. omega arith) (omega arith)
    (λ n l t. station_enough s n.value n.next (omega arith))

pub start_enough : (s : List ℕ) → 10 ≤ length s → start_of s ≡ Err InputEnds → ⊥
unfolding start_of
start_enough s h = step_enough s 0 (λ v. eqb v 1) (λ n. Ok n) NotATrace (λ e. omega arith) (omega arith) (λ n l t. ok_err)
