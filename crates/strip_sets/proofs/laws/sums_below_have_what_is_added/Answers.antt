use Rattle.strip_sets.proofs.Once.{more_in_each_above}
use Rattle.strip_sets.proofs.laws.sums_below_have_what_is_added.Goals as goal

pub returns : goal.returns
returns c = more_in_each_above
