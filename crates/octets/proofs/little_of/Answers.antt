use Rattle.std.proofs.Common.{rules, arith}
use Rattle.octets.proofs.Reading.{one_less, next_front, little_turn, wider_down}
use Rattle.octets.proofs.little_of.Goals as goal

pub loop-b-preserved : goal.loop-b-preserved
loop-b-preserved c =
    let i = c.loop-b.invariant in
    let e = c.in-Some.ensures.steps in
    record {
      can_next = tt;
      is_finite = tt;
      front = next_front _ _ i.front _ _ e;
      part = omega (arith, one_less _ _ i.front _ _ e, i.part);
      number = little_turn _ _ i.front _ _ e c.type_inv.d i.part _ i.width _ (search rules) i.number;
      width = wider_down _ _ i.front _ _ e c.type_inv.d i.part _ i.width _ (search rules);
    }
