use Rattle.strip_trim.proofs.BestKnown.{bound_best}
use Rattle.strip_trim.proofs.laws.the_best_line_has_the_greatest_bound.Goals as goal

pub returns : goal.returns
returns c = bound_best
