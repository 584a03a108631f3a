-- Through any run, an ID stands in the queue as often as it was added and not yet removed or taken: of each call by the place that it changes, of a run by
-- induction over it. So from an empty queue no ID is taken more often than it was added. Assumes nothing.
use mathlib.Core.{Path.◌≡◌, Path.refl, Path.sym, Bool.true, List.List, List.[], List.◌∷◌}
use Rattle.std.specs.Prelude.{Option, Some, None}
use Prim.Native.Nat.{ℕ, ◌+◌, ◌≤◌}
use native.Mathlib.Omega.{arith}
use lib.{Dec.eqb, ListN.get_or, ListN.replicate}
use borrow.Author.Tests.{eqb-true}
use Rattle.octets.proofs.Ranges.{true_false}
use Rattle.queue.specs.Entry.{Entry, is_suitable}
use Rattle.queue.specs.Queue.{Queue, has_id, is_free, place_of_id, free_place, chosen}
use Rattle.queue.specs.Run.{Call, Did, Stepped, step, after, one, is_added, is_gone, is_taken, tally, count_id}
use Rattle.queue.proofs.{Cases.by_place, Places.passes, Counted.count_set, Counted.count_empty, Choosing.stands}

module _ (id : ℕ) where
  -- a free place has no ID, and one that has an ID has no other
  is_free_lem : (x : Option Entry) → is_free x ≡ true → one (has_id id x) ≡ 0
  is_free_lem None p = refl
  is_free_lem (Some e) p = true_false (sym p)

  has_one : (k : ℕ) (x : Option Entry) → has_id k x ≡ true → one (has_id id x) ≡ one (eqb k id)
  has_one k None p = true_false (sym p)
  has_one k (Some e) p = rw (eqb-true e.asks.que_id k p)

  abbrev Balanced : Queue → Stepped → Type 0
  Balanced q s = count_id id q + is_added id s.did ≡ is_gone id s.did + count_id id s.queue

  pub balanced : (q : Queue) (c : Call) → Balanced q (step q c)
  unfolding step
  balanced q (Call.add e) =
      by_place (Balanced q) (place_of_id e.asks.que_id q) _ _ (λ i h. omega arith)
      (λ h. by_place (Balanced q) (free_place q) _ _
      (λ i h. let s = passes is_free q i h in omega (arith, count_set id q i (Some e) s.0, is_free_lem (get_or q i None) s.1)) (λ h. omega arith))
  balanced q (Call.cancel k) =
      by_place (Balanced q) (place_of_id k q) _ _
      (λ i h. let s = passes (has_id k) q i h in omega (arith, count_set id q i None s.0, has_one k (get_or q i None) s.1)) (λ h. omega arith)
  balanced q (Call.choose eui k expected) =
      by_place (Balanced q) (chosen eui k expected q) _ _
      (λ f h. let s = stands (is_suitable eui k expected) q f h in omega (arith, rw s.there at (count_set id q f.place None s.inside))) (λ h. omega arith)

  pub conserved : (q : Queue) (cs : List Call) → count_id id q + tally (is_added id) q cs ≡ tally (is_gone id) q cs + count_id id (after q cs)
  unfolding tally after
  conserved q [] = omega arith
  conserved q (c ∷ cs) = omega (arith, balanced q c, conserved (step q c).queue cs)

  -- from an empty queue
  taken_gone : (d : Did) → is_taken id d ≤ is_gone id d
  taken_gone Did.nothing = omega arith
  taken_gone (Did.added k) = omega arith
  taken_gone (Did.removed k) = omega arith
  taken_gone (Did.taken k) = omega arith

  all_gone : (q : Queue) (cs : List Call) → tally (is_taken id) q cs ≤ tally (is_gone id) q cs
  unfolding tally
  all_gone q [] = omega arith
  all_gone q (c ∷ cs) = omega (arith, taken_gone (step q c).did, all_gone (step q c).queue cs)

  pub at_most_once : (n : ℕ) (cs : List Call) → tally (is_taken id) (replicate n None) cs ≤ tally (is_added id) (replicate n None) cs
  at_most_once n cs = omega (arith, count_empty id n, conserved (replicate n None) cs, all_gone (replicate n None) cs)
