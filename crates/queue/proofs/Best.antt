-- The walk for the best place: of the place before those that are left and the best of them the better is the best of all from there on. Each law in the shape of
-- a need of the code. Assumes nothing.
use mathlib.Core.{Path.◌≡◌, Path.refl, Path.ap}
use Rattle.std.specs.Prelude.{Option, Some, None, IfSome}
use mathlib.Core.Bool.{Bool, true, false, not}
use mathlib.Core.List.{List, ◌∷◌}
use Prim.Native.Nat.{ℕ, suc, ◌+◌, ◌-◌, ◌≤◌, ◌<◌}
use native.Mathlib.Omega.{arith}
use borrow.Author.Tests.{not-true, not-false}
use Rattle.octets.specs.Choice.{either}
use Rattle.queue.specs.Entry.{Entry, goes_before}
use Rattle.queue.specs.Queue.{Found, further, ahead, chosen_in}
use Rattle.queue.specs.Store.{slot_at, is_used, entry_in, queue_at}
use Rattle.queue.specs.Code.Slots.{passing, entry_at, found_from, better_than, better_of, left}
use Rattle.queue.proofs.{Reached.found_inside, Reached.found_entry, Walks.left_next, Walks.left_none}

module _ (test : Entry → Bool) (q : List ℕ) where
  -- by the tests in their order
  module _ (i : ℕ) (best : Option ℕ) (t : Bool) (e : t ≡ passing test (entry_in (slot_at q i))) where
    pub stays : not t ≡ true → best ≡ better_of test q i best
    unfolding better_of
    stays h = rw (← e, not-true t h)

    module _ (h : not t ≡ false) where
      pub only : best ≡ None → Some i ≡ better_of test q i best
      unfolding better_of
      only k = rw (← e, not-false t h, k)

      module _ (b : ℕ) (n : best ≡ Some b) (g : Bool) (f : g ≡ goes_before (entry_at (slot_at q b)) (entry_at (slot_at q i))) where
        pub still : g ≡ true → best ≡ better_of test q i best
        unfolding better_of
        still k = rw (← e, not-false t h, n, ← f, k)

        pub over : g ≡ false → Some i ≡ better_of test q i best
        unfolding better_of
        over k = rw (← e, not-false t h, n, ← f, k)

  pub best_in : (best : Option ℕ) (b : ℕ) → best ≡ Some b → IfSome best (λ b. b < 32) → b < 32
  best_in best b e h = rw e at h

  -- the walk
  pub best_none : None ≡ found_from 32 (chosen_in test (left q 32))
  unfolding chosen_in
  best_none = rw (left_none q)

  module _ (i : ℕ) (few : i ≤ 32) where
    found_few : (o : Option Found) → chosen_in test (left q i) ≡ o → IfSome (found_from i o) (λ b. b < 32)
    found_few None h = tt
    found_few (Some f) h = omega (arith, found_inside q i (32 - i) test f h)

    module _ (best : Option ℕ) (e : best ≡ found_from i (chosen_in test (left q i))) where
      pub best_few : IfSome best (λ b. b < 32)
      best_few = rw e (found_few (chosen_in test (left q i)) refl)

      pub best_done : i ≤ 0 → best ≡ found_from 0 (chosen_in test (queue_at q))
      best_done h = let z : i ≡ 0 = omega arith in rw z at e

      module _ (h : 0 < i) where
        abbrev a : Entry
        a = entry_at (slot_at q (i - 1))

        at : (n : ℕ) (p : ℕ) → n + 1 ≡ i → ◌≡◌ {A = Option ℕ} (Some (i + p)) (Some (n + suc p))
        at n p z = ap Some (omega arith)

        on : (o : Option Found) → found_from i o ≡ found_from (i - 1) (further o)
        on None = refl
        on (Some f) = at (i - 1) f.place (omega arith)

        here : ◌≡◌ {A = Option ℕ} (Some (i - 1)) (Some (i - 1 + 0))
        here = ap Some (omega arith)

        picked : (f : Found) (x : Entry) → x ≡ f.entry → Some (either (goes_before x a) (λ _. i + f.place) (λ _. i - 1)) ≡ found_from (i - 1) (ahead a (Some f))
        picked f x p = rw p (go (goes_before f.entry a))
          where
            go : (b : Bool) → Some (either b (λ _. i + f.place) (λ _. i - 1)) ≡ found_from (i - 1) (either b (λ _. further (Some f)) (λ _. Some (record { place = 0; entry = a })))
            go true = on (Some f)
            go false = here

        ahead_is : (o : Option Found) → chosen_in test (left q i) ≡ o → Some (better_than q (i - 1) (found_from i o)) ≡ found_from (i - 1) (ahead a o)
        ahead_is None p = here
        ahead_is (Some f) p = picked f (entry_at (slot_at q (i + f.place))) (found_entry q i (32 - i) test f p).1

        tested : (t : Bool) → either t (λ _. Some (better_than q (i - 1) (found_from i (chosen_in test (left q i))))) (λ _. found_from i (chosen_in test (left q i)))
            ≡ found_from (i - 1) (either t (λ _. ahead a (chosen_in test (left q i))) (λ _. further (chosen_in test (left q i))))
        tested true = ahead_is (chosen_in test (left q i)) refl
        tested false = on (chosen_in test (left q i))

        by_use : (u : Bool) → either (passing test (either u (λ _. Some a) (λ _. None))) (λ _. Some (better_than q (i - 1) (found_from i (chosen_in test (left q i))))) (λ _. found_from i (chosen_in test (left q i)))
            ≡ found_from (i - 1) (chosen_in test (either u (λ _. Some a) (λ _. None) ∷ left q i))
        unfolding chosen_in
        by_use true = tested (test a)
        by_use false = on (chosen_in test (left q i))

        pub best_turn : (f : Option ℕ) → f ≡ better_of test q (i - 1) best → f ≡ found_from (i - 1) (chosen_in test (left q (i - 1)))
        unfolding better_of
        best_turn f r = rw (left_next q i h few, r, e) (by_use (is_used (slot_at q (i - 1))))

pub ruleset bests = (stays, only, still, over, best_in, best_none, best_few, best_turn, best_done, arith)
