use Rattle.strip_sets.proofs.table.+other_sums.Given as goal

abbrev pub decreases-other_sums : goal.decreases-other_sums
decreases-other_sums g l = l.higher
