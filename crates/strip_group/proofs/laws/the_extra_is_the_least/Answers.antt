use Rattle.strip_group.proofs.Least.{extra_is_least}
use Rattle.strip_group.proofs.laws.the_extra_is_the_least.Goals as goal

pub returns : goal.returns
returns c = extra_is_least
