use native.Mathlib.Omega.{arith}
use Rattle.std.proofs.Common.{rules, tests}
use Rattle.std.proofs.lemmas.Iterator.{first_from_Range, serves_from_Range}
use Rattle.queue.specs.Queue.{has_id}
use Rattle.queue.proofs.Walks.{Passes, Fails, first_is}
use Rattle.queue.proofs.lookup.place_of_id.Goals as goal

pub find-requires : goal.find-requires
find-requires c = record { can = tt; finite = tt; callable = serves_from_Range (λ x q k. search (rules, tests)) (λ x low high. search rules) }

pub returns : goal.returns
returns c =
    let q = c.args.q.now in
    let test = has_id c.args.id in
    first_is q test _ (first_from_Range _ _ _ _ (Passes q test) (Fails q test) c.find.ensures.ran (λ x p k. grind (arith, tests)) (λ x p k. (search rules, grind (arith, tests))))
