use Rattle.strip_steal.proofs.Rules.{puts}
use Rattle.strip_steal.proofs.deal.put.Goals as goal

pub push_as-requires-clause-pushes : goal.push_as-requires-clause-pushes
push_as-requires-clause-pushes c = puts _ _ _ c.requires.weight c.requires.still
