use Rattle.strip_bound.proofs.Tails.{groups_bound_tails}
use Rattle.strip_bound.proofs.laws.groups_bound_every_tail.Goals as goal

pub returns : goal.returns
returns c = λ film set groups scenes is lies are each. groups_bound_tails film is set groups scenes lies are each
