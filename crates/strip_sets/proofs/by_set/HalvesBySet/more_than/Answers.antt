use Rattle.std.proofs.Common.{◌+◌, ◌≤◌, ℕ}
use Rattle.strip_sets.proofs.Parts.{each_half, of_with, of_without}
use Rattle.strip_sets.proofs.by_set.HalvesBySet.more_than.Goals as goal

pub more_than-requires : goal.more_than-requires
more_than-requires g c = of_without g.T.BySet.places (g.T.BySet.value c.args.others.now.without) (g.T.BySet.value c.args.others.now.with) (g.T.BySet.value c.args.others.now.without) (g.T.BySet.value c.args.others.now.with)
    (g.T.BySet.value c.args.others.now.without) (g.T.BySet.value c.args.others.now.with) (λ (x y z : ℕ). x + c.args.number ≤ g.T.BySet.most) c.requires

pub more_than-requires-2 : goal.more_than-requires-2
more_than-requires-2 g c = of_with g.T.BySet.places (g.T.BySet.value c.args.others.now.without) (g.T.BySet.value c.args.others.now.with) (g.T.BySet.value c.args.others.now.without) (g.T.BySet.value c.args.others.now.with)
    (g.T.BySet.value c.args.others.now.without) (g.T.BySet.value c.args.others.now.with) (λ (x y z : ℕ). x + c.args.number ≤ g.T.BySet.most) c.requires

pub returns : goal.returns
returns g c = each_half g.T.BySet.places (g.T.BySet.value c.args.others.now.without) (g.T.BySet.value c.args.others.now.with) (g.T.BySet.value c.args.others.now.without) (g.T.BySet.value c.args.others.now.with)
    (g.T.BySet.value c.args.others.now.without) (g.T.BySet.value c.args.others.now.with) (λ (x y z : ℕ). x + c.args.number) (g.T.BySet.value c.more_than.new.self) (g.T.BySet.value c.more_than-2.new.self) c.more_than.ensures c.more_than-2.ensures
