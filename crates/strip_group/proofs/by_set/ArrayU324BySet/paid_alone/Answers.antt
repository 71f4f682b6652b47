use Rattle.strip_group.proofs.Alone.{alone_two}
use Rattle.strip_group.proofs.by_set.ArrayU324BySet.paid_alone.Goals as goal

pub returns : goal.returns
returns c = alone_two c.args.rates.now c.args.self.now
