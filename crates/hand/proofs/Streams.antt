-- No byte of a stream is lost: those at hand and those that a reader has left, those written and those that wait. Assumes nothing.
use mathlib.Core.{Path.◌≡◌, Path.sym, Path.ap, Path.◌∙◌, List.List, List.[], List.◌++◌}
use Prim.Native.Nat.{ℕ, ◌+◌, ◌-◌, ◌≤◌, ◌<◌, min}
use native.Mathlib.Nat.{min-eq_left}
use native.Mathlib.Omega.{arith}
use lib.{Dec.eqb, ListN.length, ListN.take, ListN.drop}
use Rattle.std.specs.Prelude.{Option, None, Some, Result, Ok, Err, OnOk, IfOk, IsTrue}
use Rattle.std.specs.Io.KnownBytes.{Appends, Consumes, Keeps, append_known, prepend_known}
use borrow.Author.Tests.{le-leb, eqb-true}
use Rattle.octets.proofs.Places.{append-nil, append_assoc}
use Rattle.hand.specs.Code.Part.{part_of, Sound}
use Rattle.hand.proofs.Following.{parted, refilled, fits}

read_on : (o n : Option (List ℕ)) (before bs after : List ℕ) → after ≡ before ++ bs → Consumes o n bs → Keeps (prepend_known before o) (prepend_known after n)
read_on None n before bs after e c = tt
read_on (Some xs) None before bs after e c = absurd c
read_on (Some xs) (Some ys) before bs after e c = ap (λ l. l ++ ys) e ∙ append_assoc before bs ys ∙ ap (λ l. before ++ l) (sym c)

none_read : (o n : Option (List ℕ)) (before after : List ℕ) → after ≡ before → Keeps o n → Keeps (prepend_known before o) (prepend_known after n)
none_read None n before after e k = tt
none_read (Some xs) None before after e k = absurd k
none_read (Some xs) (Some ys) before after e k = ap (λ l. l ++ ys) e ∙ ap (λ l. before ++ l) k

written : (o n : Option (List ℕ)) (s t : List ℕ) → t ≡ [] → Appends o n s → Keeps (append_known o s) (append_known n t)
written None n s t e a = tt
written (Some xs) None s t e a = absurd a
written (Some xs) (Some ys) s t e a = ap (λ l. ys ++ l) e ∙ append-nil ys ∙ a

none_waits : (out : List ℕ) (k : ℕ) → k ≡ 0 → part_of out 0 k ≡ []
unfolding part_of
none_waits out k e = rw e (simp (le-leb 0 (length out) (omega arith)))

-- the text is written
module _ (o n : Option (List ℕ)) (out : List ℕ) (v m k : ℕ) (e : v ≡ m) (z : k ≡ 0) where
  pub text_written : Appends o n (part_of out 0 v) → Keeps (append_known o (part_of out 0 m)) (append_known n (part_of out 0 k))
  text_written a = written o n (part_of out 0 m) (part_of out 0 k) (none_waits out k z) (rw e at a)

  pub text_written_if : {T E : Type 0} (r : Result T E) → OnOk r (Appends o n (part_of out 0 v)) → OnOk r (Keeps (append_known o (part_of out 0 m)) (append_known n (part_of out 0 k)))
  text_written_if (Ok x) a = text_written a
  text_written_if (Err x) a = tt

pub ruleset texts = (text_written, text_written_if)

-- the rest is at the front, and a piece behind it, or none
module _ (d e f : List ℕ) (from to n : ℕ) (c : n ≡ min to (length d) - from) (g : take n e ≡ take n (drop from d))
    (a : length e ≡ length d) (b : length f ≡ length e) (t : take (min n (length e)) f ≡ take (min n (length e)) e) (o l : Option (List ℕ)) where
  pub piece_read : (got m : ℕ) → m ≡ min (n + got) (length f) → got ≤ length e - min n (length e) → Consumes o l (take got (drop (min n (length e)) f)) → Sound d from to
      → Keeps (prepend_known (part_of d from to) o) (prepend_known (part_of f 0 m) l)
  piece_read got m q h x s =
      let k : n ≤ length e = fits d e f from to n got c g a b t m q s in
      let r : m - n ≡ got = omega arith in
      read_on o l (part_of d from to) (take got (drop n f)) (part_of f 0 m)
      (parted d e f from to n got c g a b t m q s ∙ ap (λ j. part_of d from to ++ take j (drop n f)) r) (rw (min-eq_left k) at x)

  pub no_piece : Keeps o l → Sound d from to → Keeps (prepend_known (part_of d from to) o) (prepend_known (part_of f 0 n) l)
  no_piece x s =
      let k : n ≤ length e = (let p = s.there in omega arith) in
      let q : n ≡ min (n + 0) (length f) = omega arith in
      let r : n - n ≡ 0 = omega arith in
      none_read o l (part_of d from to) (part_of f 0 n)
      (parted d e f from to n 0 c g a b t n q s ∙ ap (λ j. part_of d from to ++ take j (drop n f)) r ∙ append-nil (part_of d from to)) x

-- nothing is read where there is room only at the reader's end
pub nothing_read : {P E : Type 0} (r : Result ℕ E) (got n from to x y : ℕ) → r ≡ Ok got → IfOk r (λ k. k ≡ 0 → n < y → P) → n ≡ min to x - from → y ≡ x → min to x - from < x
    → IsTrue (eqb got 0) → P
nothing_read r got n from to x y q f c e h t = (rw q at f) (eqb-true got 0 t) (omega arith)

pub ruleset refilling = (refilled, piece_read, nothing_read)
