use Rattle.groups.proofs.+group_at.Given as goal

abbrev pub decreases-group_at : goal.decreases-group_at
decreases-group_at l = l.more
