use Rattle.std.proofs.Common.{ℕ}
use Rattle.strip_sets.proofs.Parts.{each_half}
use Rattle.strip_sets.proofs.by_set.HalvesBySet.copy_from.Goals as goal

pub returns : goal.returns
returns g c = each_half g.T.BySet.places (g.T.BySet.value c.args.self.now.without) (g.T.BySet.value c.args.self.now.with) (g.T.BySet.value c.args.others.now.without) (g.T.BySet.value c.args.others.now.with) (g.T.BySet.value c.args.others.now.without) (g.T.BySet.value c.args.others.now.with) (λ (x y z : ℕ). y) (g.T.BySet.value c.copy_from.new.self) (g.T.BySet.value c.copy_from-2.new.self) c.copy_from.ensures c.copy_from-2.ensures
