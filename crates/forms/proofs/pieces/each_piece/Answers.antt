use Rattle.std.proofs.Common.{rules}
use Rattle.forms.proofs.Downlinks.{sizes_all, turn_there, turn_put}
use Rattle.forms.proofs.pieces.each_piece.Goals as goal

pub loop-size-preserved : goal.loop-size-preserved
loop-size-preserved c =
    let i = c.loop-size.invariant in
    let few = c.requires.0 in
    let long = c.requires.1 in
    let l = c.loop-size-test.true in
    let e = c.from-from.ensures in
    (search rules, turn_there _ _ _ few long l _ e _ i.1, turn_put _ _ _ few long l _ e _ _ _ _ i.2 c.put_octets-next.ensures)

pub returns : goal.returns
returns c =
    let i = c.loop-size.invariant in
    sizes_all _ _ _ c.requires.0 c.requires.1 _ _ _ i.2 c.loop-size-test.false
