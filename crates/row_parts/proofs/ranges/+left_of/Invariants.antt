use Rattle.row_parts.proofs.ranges.+left_of.Given as goal

abbrev pub decreases-left_of : goal.decreases-left_of
decreases-left_of l = l.count
