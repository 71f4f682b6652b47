use Rattle.std.proofs.Common.{◌+◌, ◌≤◌, ℕ}
use Rattle.strip_sets.proofs.Parts.{each_half, of_with, of_without}
use Rattle.strip_sets.proofs.by_set.HalvesBySet.plus.Goals as goal

pub plus-requires : goal.plus-requires
plus-requires g c = of_without g.T.BySet.places (g.T.BySet.value c.args.self.now.without) (g.T.BySet.value c.args.self.now.with) (g.T.BySet.value c.args.others.now.without) (g.T.BySet.value c.args.others.now.with) (g.T.BySet.value c.args.others.now.without) (g.T.BySet.value c.args.others.now.with) (λ (x y z : ℕ). x + y ≤ g.T.BySet.most) c.requires

pub plus-requires-2 : goal.plus-requires-2
plus-requires-2 g c = of_with g.T.BySet.places (g.T.BySet.value c.args.self.now.without) (g.T.BySet.value c.args.self.now.with) (g.T.BySet.value c.args.others.now.without) (g.T.BySet.value c.args.others.now.with) (g.T.BySet.value c.args.others.now.without) (g.T.BySet.value c.args.others.now.with) (λ (x y z : ℕ). x + y ≤ g.T.BySet.most) c.requires

pub returns : goal.returns
returns g c = each_half g.T.BySet.places (g.T.BySet.value c.args.self.now.without) (g.T.BySet.value c.args.self.now.with) (g.T.BySet.value c.args.others.now.without) (g.T.BySet.value c.args.others.now.with) (g.T.BySet.value c.args.others.now.without) (g.T.BySet.value c.args.others.now.with) (λ (x y z : ℕ). x + y) (g.T.BySet.value c.plus.new.self) (g.T.BySet.value c.plus-2.new.self) c.plus.ensures c.plus-2.ensures
