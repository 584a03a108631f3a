use Rattle.forms.proofs.Downlinks.{pieces_put}
use Rattle.forms.proofs.put_pieces.Goals as goal

pub returns : goal.returns
returns c =
    let g = rw c.from.ensures at c.each_piece.ensures in
    pieces_put _ _ c.requires.0 c.requires.1 _ _ _ c.put_array-next.ensures g
