-- A record as it is written: each law in the shape of a need of the code. The three numbers have place in a room of their own, so what stands in
-- front of the place behind them is their bytes. Assumes nothing.
use mathlib.Core.Path.{◌≡◌, sym, ap, ◌∙◌}
use mathlib.Core.Bool.{Bool, true, false, not}
use mathlib.Core.List.{List, [], ◌∷◌, ◌++◌, append_assoc, append-nil}
use Prim.Native.Nat.{ℕ, ◌+◌, ◌-◌, ◌≤◌, ◌<◌}
use native.Mathlib.{Nat.zero-add, Omega.arith}
use lib.{ListN.length, ListN.take, ListN.length-append, Seq.length-take-le}
use borrow.Author.Tests.{le-leb, lt-leb, not-true, not-false}
use Rattle.octets.specs.{Bytes.put_at}
use Rattle.octets.proofs.Writing.{put_upto, length_put}
use Rattle.forms.specs.Code.Put.{Put, put, put_parts, joined}
use Rattle.forms.proofs.{Putting.parts_then, Putting.fits_parts, Putting.joined_join, Decimals.joined_each}
use Rattle.groups.specs.{Groups.groups_of, Groups.number_bytes, Code.Parts.group_parts}
use Rattle.groups.proofs.Inverse.{most_ten}
use Rattle.std.specs.Prelude.{Ok, Err}
use Rattle.refusal.specs.declared.Refusal.{TheVariants.RoomTooShort, TheVariants.StationNumber, TheVariants.TimeSum, TheVariants.NotOneFrame}
use Rattle.trace.specs.Record.{is_one_frame, is_time}
use Rattle.trace.proofs.Reading.{station_small}
use Rattle.trace.specs.Write.{Recorded, recorded, placed_in, record_bytes, record_in, start_in}

-- the numbers in front of a frame
abbrev three_numbers : ℕ → ℕ → ℕ → List ℕ
three_numbers gap station size = number_bytes gap ++ (number_bytes station ++ number_bytes size)

few_numbers : (gap station size : ℕ) → length (three_numbers gap station size) ≤ 30
few_numbers gap station size =
    omega (arith, length-append (number_bytes gap) (number_bytes station ++ number_bytes size), length-append (number_bytes station) (number_bytes size), most_ten gap, most_ten station, most_ten size)

abbrev three_parts : ℕ → ℕ → ℕ → List (List ℕ)
three_parts gap station size = group_parts 10 gap ++ (group_parts 10 station ++ group_parts 10 size)

joined_numbers : (gap station size : ℕ) → joined (three_parts gap station size) ≡ three_numbers gap station size
joined_numbers gap station size = simp (joined_join, joined_each)

module _ (gap station size : ℕ) (d x y z : List ℕ) (i j k : ℕ) (r : put z k ≡ put_parts (group_parts 10 size) (put y j)) (q : put y j ≡ put_parts (group_parts 10 station) (put x i)) (p : put x i ≡ put_parts (group_parts 10 gap) (put d 0)) (h : length d ≡ 30) where
  stand : put z k ≡ put (put_at d 0 (three_numbers gap station size)) (0 + length (three_numbers gap station size))
  stand =
      let e : joined (three_parts gap station size) ≡ three_numbers gap station size = joined_numbers gap station size in
      parts_then (group_parts 10 gap) (group_parts 10 station ++ group_parts 10 size) (put d 0) (put x i) (put z k) p
      (parts_then (group_parts 10 station) (group_parts 10 size) (put x i) (put y j) (put z k) q r)
      ∙ fits_parts (three_parts gap station size) d 0 (rw e (omega (arith, few_numbers gap station size)))
      ∙ ap (λ (l : List ℕ). put (put_at d 0 l) (0 + length l)) e

  pub numbers_stand : take k z ≡ number_bytes gap ++ (number_bytes station ++ number_bytes size)
  numbers_stand = ap (λ (o : Put). take o.next o.room) stand ∙ put_upto d 0 (three_numbers gap station size) (omega (arith, few_numbers gap station size))

  pub numbers_there : k ≤ length z
  numbers_there =
      omega (arith, few_numbers gap station size, ap (λ (o : Put). o.next) stand, ap (λ (o : Put). length o.room) stand, length_put d 0 (three_numbers gap station size))

pub ruleset numbers = (numbers_stand, numbers_there)

-- two runs, where both have place
module _ (head rest d : List ℕ) where
  long : length (head ++ rest) ≡ length head + length rest
  long = length-append head rest

  pub rest_out : length d < length rest → recorded (Err RoomTooShort) d ≡ placed_in (head ++ rest) d
  unfolding placed_in
  rest_out h = let n = long in simp (lt-leb (length (head ++ rest)) (length d) (omega arith))

  pub head_out : length d - length rest < length head → recorded (Err RoomTooShort) d ≡ placed_in (head ++ rest) d
  unfolding placed_in
  head_out h = let n = long in simp (lt-leb (length (head ++ rest)) (length d) (omega arith))

  both_joined : joined (head ∷ (rest ∷ [])) ≡ head ++ rest
  unfolding joined
  both_joined = simp append-nil

  module _ (x y : List ℕ) (j k : ℕ) (h : length rest ≤ length d) (l : length head ≤ length d - length rest) (e : put x j ≡ put_parts (head ∷ []) (put d 0)) (f : put y k ≡ put_parts (rest ∷ []) (put x j)) where
    both_stand : put y k ≡ put (put_at d 0 (head ++ rest)) (length (head ++ rest))
    both_stand =
        rw (both_joined, zero-add) at
        (parts_then (head ∷ []) (rest ∷ []) (put d 0) (put x j) (put y k) e f
        ∙ fits_parts (head ∷ (rest ∷ [])) d 0 (let n = long in rw both_joined (omega arith)))

    pub both_in : recorded (Ok k) y ≡ placed_in (head ++ rest) d
    unfolding placed_in
    both_in =
        let n = long in
        simp (le-leb (length (head ++ rest)) (length d) (omega arith)) (ap (λ (o : Put). recorded (Ok o.next) o.room) both_stand)

pub ruleset placing = (rest_out, head_out, both_in)

-- the start
pub start_placed : (d : List ℕ) (r : Recorded) → r ≡ placed_in ((1 ∷ []) ++ []) d → r ≡ start_in d
unfolding start_in groups_of
start_placed d r e = e

pub numbers_taken : (d : List ℕ) (n : ℕ) → n ≤ length d → n ≡ length (take n d)
numbers_taken d n h = sym (length-take-le n d h)

-- a record
module _ (sum gap station : ℕ) (frame d : List ℕ) (b : Bool) (q : b ≡ is_time (sum + gap)) where
  pub time_refused : not b ≡ true → recorded (Err TimeSum) d ≡ record_in sum gap station frame d
  unfolding record_in
  time_refused t = simp (← q, not-true b t)

  module _ (t : not b ≡ false) where
    pub station_refused : 63 < station → recorded (Err StationNumber) d ≡ record_in sum gap station frame d
    unfolding record_in
    station_refused h = simp (← q, not-false b t, lt-leb station 63 h)

    module _ (h : station ≤ 63) (c : Bool) (f : c ≡ is_one_frame frame) where
      pub frame_refused : not c ≡ true → recorded (Err NotOneFrame) d ≡ record_in sum gap station frame d
      unfolding record_in
      frame_refused u = simp (← q, not-false b t, le-leb station 63 h, ← f, not-true c u)

      pub record_placed : (numbers : List ℕ) (r : Recorded) → not c ≡ false → numbers ≡ number_bytes gap ++ (number_bytes station ++ number_bytes (length frame))
          → r ≡ placed_in (numbers ++ frame) d → r ≡ record_in sum gap station frame d
      unfolding record_in record_bytes
      record_placed numbers r u e g = simp (← q, not-false b t, le-leb station 63 h, ← f, not-false c u) (simp (e, append_assoc) at g)

pub ruleset recording = (station_small, numbers_taken, time_refused, station_refused, frame_refused, record_placed)
