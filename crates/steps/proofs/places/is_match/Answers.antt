-- Three tests, two of them on the bits of signed numbers. Assumes nothing.
use Rattle.session.specs.Place.{entry}
use Rattle.steps.proofs.Searching.{match_is, zero_bits}
use Rattle.steps.proofs.places.is_match.Goals as goal

pub returns : goal.returns
returns c =
    match_is (entry c.args.id c.args.kind) c.args.wanted c.args.start _ (zero_bits c.args.id c.ranges.id.sfits) c.ranges.id.sfits c.ranges.wanted.sfits
