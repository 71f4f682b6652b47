use Rattle.strip_group.proofs.Alone.{alone_none}
use Rattle.strip_group.proofs.by_set.U64BySet.paid_alone.Goals as goal

pub returns : goal.returns
returns c = alone_none c.args._rates.now (λ _. c.args.self.now)
