-- A number, its test and what follows: the three numbers of a record have this in common, so what they share is said once; and the frame behind
-- them. So has a trace's start. By cases of the tests. Assumes nothing.
use mathlib.Core.{Path.◌≡◌, Path.refl, Path.ap, List.List}
use mathlib.Core.Bool.{Bool, true, false}
use Prim.Native.Nat.{ℕ, ◌+◌, ◌≤◌, ◌<◌}
use lib.{Dec.leb, ListN.length, ListN.take, ListN.drop}
use borrow.Author.Tests.{le-leb, leb-true, leb-false}
use Rattle.std.specs.Prelude.{Result, Ok, Err}
use Rattle.std.specs.Result.{result_unwrap_or}
use Rattle.octets.specs.Choice.{either}
use Rattle.refusal.specs.declared.Refusal.{Refusal, TheVariants.InputEnds, TheVariants.NotOneFrame}
use Rattle.groups.specs.declared.Number.{Number}
use Rattle.groups.specs.Groups.{on_number}
use Rattle.trace.specs.declared.Entry.{Entry}
use Rattle.trace.specs.Record.{is_one_frame, frame_at}

abbrev refusal_or : {A : Type 0} → Refusal → Result A Refusal → Refusal
refusal_or d (Ok a) = d
refusal_or d (Err k) = k

-- two answers that are values have the same, and two refusals too
pub ok_same : {A : Type 0} {a b : A} → ◌≡◌ {A = Result A Refusal} (Ok a) (Ok b) → a ≡ b
ok_same {A} {a} e = ap (λ (r : Result A Refusal). result_unwrap_or r a) e

pub err_same : {A : Type 0} {j k : Refusal} → ◌≡◌ {A = Result A Refusal} (Err j) (Err k) → j ≡ k
err_same {A} {j} e = ap (λ (r : Result A Refusal). refusal_or j r) e

abbrev pub step_of : {A : Type 0} → Result Number Refusal → (ℕ → Bool) → (Number → Result A Refusal) → Refusal → Result A Refusal
step_of n test next k = on_number n (λ m. either (test m.value) (λ _. next m) (λ _. Err k))

module _ {A : Type 0} (n : Result Number Refusal) (test : ℕ → Bool) (next : Number → Result A Refusal) (k : Refusal) where
  pub by_step : (P : Result A Refusal → Type 0) → ((j : Refusal) → n ≡ Err j → P (Err j)) → ((o : Number) → n ≡ Ok o → test o.value ≡ false → P (Err k))
      → ((o : Number) → n ≡ Ok o → test o.value ≡ true → P (next o)) → P (step_of n test next k)
  by_step P a b c = go n refl
    where
      tested : (o : Number) → n ≡ Ok o → (u : Bool) → test o.value ≡ u → P (either u (λ _. next o) (λ _. Err k))
      tested o e false f = b o e f
      tested o e true f = c o e f

      go : (r : Result Number Refusal) → n ≡ r → P (step_of r test next k)
      go (Err j) e = a j e
      go (Ok o) e = tested o e (test o.value) refl

  pub step_refused : (j : Refusal) → n ≡ Err j → step_of n test next k ≡ Err j
  step_refused j e = simp e

  module _ (o : Number) (e : n ≡ Ok o) where
    pub step_failed : test o.value ≡ false → step_of n test next k ≡ Err k
    step_failed t = simp (e, t)

    pub step_passed : test o.value ≡ true → step_of n test next k ≡ next o
    step_passed t = simp (e, t)

module _ (s : List ℕ) (gap station from size : ℕ) where
  abbrev pub entry_at : Entry
  entry_at = record { gap = gap; station = station; from = from; size = size }

  pub by_frame : (P : Result Entry Refusal → Type 0) → (length s < from + size → P (Err InputEnds)) → (from + size ≤ length s → is_one_frame (take size (drop from s)) ≡ false → P (Err NotOneFrame))
      → (from + size ≤ length s → is_one_frame (take size (drop from s)) ≡ true → P (Ok entry_at)) → P (frame_at s gap station from size)
  unfolding frame_at
  by_frame P a b c = go (leb (from + size) (length s)) (is_one_frame (take size (drop from s))) refl refl
    where
      go : (t u : Bool) → leb (from + size) (length s) ≡ t → is_one_frame (take size (drop from s)) ≡ u → P (either t (λ _. either u (λ _. Ok entry_at) (λ _. Err NotOneFrame)) (λ _. Err InputEnds))
      go false u e f = a (leb-false (from + size) (length s) e)
      go true false e f = b (leb-true (from + size) (length s) e) f
      go true true e f = c (leb-true (from + size) (length s) e) f

  module _ (h : from + size ≤ length s) where
    pub frame_strange : is_one_frame (take size (drop from s)) ≡ false → frame_at s gap station from size ≡ Err NotOneFrame
    unfolding frame_at
    frame_strange t = simp (le-leb (from + size) (length s) h, t)

    pub frame_whole : is_one_frame (take size (drop from s)) ≡ true → frame_at s gap station from size ≡ Ok entry_at
    unfolding frame_at
    frame_whole t = simp (le-leb (from + size) (length s) h, t)
