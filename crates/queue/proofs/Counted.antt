-- How often a queue ID stands in a queue: another entry at a place changes it by that place's alone, and an ID that has no place stands nowhere,
-- as in an empty queue. By induction over the places. Assumes nothing.
use mathlib.Core.{Path.◌≡◌, Path.refl, Bool.false, List.[], List.◌∷◌}
use Rattle.std.specs.Prelude.{Option, None}
use Prim.Native.Nat.{ℕ, zero, suc, ◌+◌, ◌<◌}
use native.Mathlib.Omega.{arith}
use lib.ListN.{length, get_or, set, replicate}
use Rattle.queue.specs.{Entry.Entry, Queue.Queue, Queue.has_id, Queue.place_of_id, Run.one, Run.count_id}
use Rattle.queue.proofs.Places.{fails}

module _ (id : ℕ) where
  pub count_set : (q : Queue) (i : ℕ) (x : Option Entry) → i < length q → count_id id (set q i x) + one (has_id id (get_or q i None)) ≡ count_id id q + one (has_id id x)
  unfolding count_id
  count_set [] i x h = absurd (omega arith)
  count_set (y ∷ q) zero x h = omega arith
  count_set (y ∷ q) (suc i) x h = omega (arith, count_set q i x (omega arith))

  pub count_none : (q : Queue) → ((i : ℕ) → i < length q → has_id id (get_or q i None) ≡ false) → count_id id q ≡ 0
  unfolding count_id
  count_none [] f = refl
  count_none (y ∷ q) f = rw (f 0 (omega arith), count_none q (λ i h. f (suc i) (omega arith)))

  pub count_absent : (q : Queue) → place_of_id id q ≡ None → count_id id q ≡ 0
  count_absent q e = count_none q (fails (has_id id) q e)

  pub count_empty : (n : ℕ) → count_id id (replicate n None) ≡ 0
  unfolding count_id
  count_empty zero = refl
  count_empty (suc n) = omega (arith, count_empty n)
