use Rattle.strip_trim.proofs.BestKnown.{known_best}
use Rattle.strip_trim.proofs.laws.what_is_known_is_by_the_best.Goals as goal

pub returns : goal.returns
returns c = known_best
