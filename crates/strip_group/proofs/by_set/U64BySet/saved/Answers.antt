use Rattle.strip_group.proofs.Saved.{saves_none}
use Rattle.strip_group.proofs.by_set.U64BySet.saved.Goals as goal

pub returns : goal.returns
returns c = saves_none c.args._rates.now c.args._days.now c.args.self.now
