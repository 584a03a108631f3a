-- The first place that passes a test: it is one of the queue's and passes; where there is none, no place passes. By induction over the places. Assumes nothing.
use mathlib.Core.{Path.◌≡◌, Path.refl, Path.sym, Bool.Bool, Bool.true, Bool.false, List.[], List.◌∷◌}
use Rattle.std.specs.Prelude.{Option, Some, None}
use Prim.Native.Nat.{ℕ, zero, suc, ◌<◌}
use native.Mathlib.Omega.{arith}
use lib.ListN.{length, get_or, set}
use Rattle.octets.specs.Choice.{either}
use Rattle.queue.specs.{Entry.Entry, Queue.Queue, Queue.one_on, Queue.first_place}
use Rattle.queue.proofs.Cases.{none_some, some_is}

module _ (test : Option Entry → Bool) where
  abbrev Stands : Queue → ℕ → Type 0
  Stands q i = (i < length q) × (test (get_or q i None) ≡ true)

  further : (x : Option Entry) (q : Queue) (p : Option ℕ) (i : ℕ) → ((j : ℕ) → p ≡ Some j → Stands q j) → one_on p ≡ Some i → Stands (x ∷ q) i
  further x q None i rest e = none_some e
  further x q (Some j) zero rest e = absurd (omega (arith, some_is e))
  further x q (Some j) (suc i) rest e =
      let h : j ≡ i = omega (arith, some_is e) in
      let r = rw h at (rest j refl) in
      (omega (arith, r.0), r.1)

  pub passes : (q : Queue) (i : ℕ) → first_place test q ≡ Some i → Stands q i
  unfolding first_place
  passes [] i e = none_some e
  passes (x ∷ q) i e = go (test x) refl e (passes q)
    where
      go : (b : Bool) → test x ≡ b → either b (λ _. Some 0) (λ _. one_on (first_place test q)) ≡ Some i → ((j : ℕ) → first_place test q ≡ Some j → Stands q j) → Stands (x ∷ q) i
      go true p e rest = let z : 0 ≡ i = some_is e in rw (← z) (omega arith, p)
      go false p e rest = further x q (first_place test q) i rest e

  no_further : (p : Option ℕ) → one_on p ≡ None → p ≡ None
  no_further None e = refl
  no_further (Some j) e = none_some (sym e)

  pub fails : (q : Queue) → first_place test q ≡ None → (i : ℕ) → i < length q → test (get_or q i None) ≡ false
  unfolding first_place
  fails [] e i h = absurd (omega arith)
  fails (x ∷ q) e i h = go (test x) refl e i h (fails q)
    where
      go : (b : Bool) → test x ≡ b → either b (λ _. Some 0) (λ _. one_on (first_place test q)) ≡ None → (i : ℕ) → i < suc (length q)
          → (first_place test q ≡ None → (j : ℕ) → j < length q → test (get_or q j None) ≡ false) → test (get_or (x ∷ q) i None) ≡ false
      go true p e i h rest = none_some (sym e)
      go false p e zero h rest = p
      go false p e (suc i) h rest = rest (no_further (first_place test q) e) i (omega arith)

  pub missed : (q : Queue) → ((i : ℕ) → i < length q → test (get_or q i None) ≡ false) → first_place test q ≡ None
  unfolding first_place
  missed [] f = refl
  missed (x ∷ q) f = rw (f 0 (omega arith), missed q (λ i h. f (suc i) (omega arith)))

  -- a place that comes to pass is the first where none passed
  pub only_place : (q : Queue) (i : ℕ) (x : Option Entry) → i < length q → first_place test q ≡ None → test x ≡ true → first_place test (set q i x) ≡ Some i
  unfolding first_place
  only_place [] i x h e p = absurd (omega arith)
  only_place (y ∷ q) zero x h e p = rw p
  only_place (y ∷ q) (suc i) x h e p = go (test y) refl e (only_place q i x (omega arith))
    where
      go : (b : Bool) → test y ≡ b → either b (λ _. Some 0) (λ _. one_on (first_place test q)) ≡ None → (first_place test q ≡ None → test x ≡ true → first_place test (set q i x) ≡ Some i)
          → either b (λ _. Some 0) (λ _. one_on (first_place test (set q i x))) ≡ Some (suc i)
      go true t e rest = none_some (sym e)
      go false t e rest = rw (rest (no_further (first_place test q) e) p)

  -- a place that passes is the first where none before it does
  pub first_at : (q : Queue) (i : ℕ) → i < length q → test (get_or q i None) ≡ true → ((k : ℕ) → k < i → test (get_or q k None) ≡ false) → first_place test q ≡ Some i
  unfolding first_place
  first_at [] i h t n = absurd (omega arith)
  first_at (x ∷ q) zero h t n = rw t
  first_at (x ∷ q) (suc i) h t n = rw (n 0 (omega arith), first_at q i (omega arith) t (λ k l. n (suc k) (omega arith)))
