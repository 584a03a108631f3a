-- No two places have the same queue ID, before any call and so after it: an ID stands at most once exactly if no two places share one, and an entry is added only
-- where its ID stands nowhere. Assumes nothing.
use mathlib.Core.{Path.◌≡◌, Path.refl, List.List, List.[], List.◌∷◌}
use Rattle.std.specs.Prelude.{Some, None}
use mathlib.Core.Bool.{Bool, true, false, not, ◌&&◌}
use Prim.Native.Nat.{ℕ, ◌+◌, ◌≤◌}
use native.Mathlib.Omega.{arith}
use lib.{Dec.eqb, ListN.replicate}
use borrow.Author.Tests.{eqb-true, eq-eqb, not-true}
use Rattle.octets.proofs.Truth.{both}
use Rattle.queue.specs.Entry.{Entry}
use Rattle.queue.specs.Queue.{Queue, has_id, place_of_id, free_place, chosen, is_unlike, are_unlike}
use Rattle.queue.specs.Run.{Call, Stepped, step, after, one, is_added, count_id}
use Rattle.queue.proofs.{Cases.by_place, Cases.by_test, Counted.count_absent, Conserved.balanced, Counted.count_empty}

-- what a place's entry stands in no other place
unlike_none : (e : Entry) (q : Queue) → is_unlike (Some e) q ≡ true → count_id e.asks.que_id q ≡ 0
unfolding is_unlike count_id
unlike_none e [] u = refl
unlike_none e (y ∷ q) u =
    let b = both _ _ u in
    rw (not-true (has_id e.asks.que_id y) b.0, unlike_none e q b.1)

none_unlike : (e : Entry) (q : Queue) → count_id e.asks.que_id q ≡ 0 → is_unlike (Some e) q ≡ true
unfolding is_unlike count_id
none_unlike e [] h = refl
none_unlike e (y ∷ q) h = go (has_id e.asks.que_id y) h (none_unlike e q)
  where
    go : (b : Bool) → one b + count_id e.asks.que_id q ≡ 0 → (count_id e.asks.que_id q ≡ 0 → is_unlike (Some e) q ≡ true) → not b && is_unlike (Some e) q ≡ true
    go true h rest = absurd (omega arith)
    go false h rest = rest (omega arith)

pub unlike_once : (q : Queue) → are_unlike q ≡ true → (id : ℕ) → count_id id q ≤ 1
unfolding are_unlike count_id
unlike_once [] u id = omega arith
unlike_once (None ∷ q) u id = omega (arith, unlike_once q (both (is_unlike None q) (are_unlike q) u).1 id)
unlike_once (Some e ∷ q) u id = go (eqb e.asks.que_id id) refl (unlike_once q parts.1 id)
  where
    parts : (is_unlike (Some e) q ≡ true) × (are_unlike q ≡ true)
    parts = both (is_unlike (Some e) q) (are_unlike q) u

    go : (b : Bool) → eqb e.asks.que_id id ≡ b → count_id id q ≤ 1 → one b + count_id id q ≤ 1
    go true p rest = omega (arith, rw (eqb-true e.asks.que_id id p) at (unlike_none e q parts.0))
    go false p rest = omega arith

pub free_unlike : (q : Queue) → is_unlike None q ≡ true
unfolding is_unlike
free_unlike [] = refl
free_unlike (y ∷ q) = free_unlike q

pub once_unlike : (q : Queue) → ((id : ℕ) → count_id id q ≤ 1) → are_unlike q ≡ true
unfolding are_unlike count_id
once_unlike [] f = refl
once_unlike (None ∷ q) f = rw (free_unlike q, once_unlike q (λ id. omega (arith, f id)))
once_unlike (Some e ∷ q) f =
    let h : count_id e.asks.que_id q ≡ 0 = omega (arith, rw (eq-eqb e.asks.que_id e.asks.que_id refl) at (f e.asks.que_id)) in
    rw (none_unlike e q h, once_unlike q (λ id. omega (arith, f id)))

-- what is added stood nowhere
module _ (q : Queue) (u : are_unlike q ≡ true) where
  abbrev Fresh : ℕ → Stepped → Type 0
  Fresh id s = count_id id q + is_added id s.did ≤ 1

  new : (e : Entry) (id : ℕ) → place_of_id e.asks.que_id q ≡ None → count_id id q + one (eqb e.asks.que_id id) ≤ 1
  new e id h = by_test (λ n. count_id id q + n ≤ 1) (eqb e.asks.que_id id) _ _ (λ p. omega (arith, rw (eqb-true e.asks.que_id id p) at (count_absent e.asks.que_id q h))) (λ p. omega (arith, unlike_once q u id))

  fresh : (c : Call) (id : ℕ) → Fresh id (step q c)
  unfolding step
  fresh (Call.add e) id =
      by_place (Fresh id) (place_of_id e.asks.que_id q) _ _ (λ i h. omega (arith, unlike_once q u id))
      (λ h. by_place (Fresh id) (free_place q) _ _ (λ i f. new e id h) (λ f. omega (arith, unlike_once q u id)))
  fresh (Call.cancel k) id = by_place (Fresh id) (place_of_id k q) _ _ (λ i h. omega (arith, unlike_once q u id)) (λ h. omega (arith, unlike_once q u id))
  fresh (Call.choose eui k expected) id =
      by_place (Fresh id) (chosen eui k expected q) _ _ (λ f h. omega (arith, unlike_once q u id)) (λ h. omega (arith, unlike_once q u id))

  pub unique_kept : (c : Call) → are_unlike (step q c).queue ≡ true
  unique_kept c = once_unlike (step q c).queue (λ id. omega (arith, balanced id q c, fresh c id))

pub unique_after : (q : Queue) (cs : List Call) → are_unlike q ≡ true → are_unlike (after q cs) ≡ true
unfolding after
unique_after q [] u = u
unique_after q (c ∷ cs) u = unique_after (step q c).queue cs (unique_kept q u c)

-- from an empty queue
pub unique : (n : ℕ) (cs : List Call) (id : ℕ) → count_id id (after (replicate n None) cs) ≤ 1
unique n cs id = unlike_once (after (replicate n None) cs) (unique_after (replicate n None) cs (once_unlike (replicate n None) (λ k. omega (arith, count_empty k n)))) id
