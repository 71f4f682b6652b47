use Rattle.strip_bound.proofs.Party.{arrivals_bound_tails}
use Rattle.strip_bound.proofs.laws.parties_bound_every_tail.Goals as goal

pub returns : goal.returns
returns c = λ film set scenes is lies each. arrivals_bound_tails film set is lies scenes each
