use Rattle.strip_sets.proofs.table.+below.Given as goal

abbrev pub decreases-below : goal.decreases-below
decreases-below g l = l.higher
