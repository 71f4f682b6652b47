use Rattle.strip_sets.proofs.table.+pass.Given as goal

abbrev pub decreases-pass : goal.decreases-pass
decreases-pass g l = l.higher
