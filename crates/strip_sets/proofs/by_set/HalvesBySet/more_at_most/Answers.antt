use Rattle.std.proofs.Common.{◌+◌, ◌≤◌, ℕ, min}
use Rattle.strip_sets.proofs.Parts.{each_half, of_with, of_without}
use Rattle.strip_sets.proofs.by_set.HalvesBySet.more_at_most.Goals as goal

pub more_at_most-requires : goal.more_at_most-requires
more_at_most-requires g c = of_without g.T.BySet.places (g.T.BySet.value c.args.others.now.without) (g.T.BySet.value c.args.others.now.with) (g.T.BySet.value c.args.others.now.without) (g.T.BySet.value c.args.others.now.with)
    (g.T.BySet.value c.args.others.now.without) (g.T.BySet.value c.args.others.now.with) (λ (x y z : ℕ). x + c.args.number ≤ g.T.BySet.most) c.requires

pub more_at_most-requires-2 : goal.more_at_most-requires-2
more_at_most-requires-2 g c = of_with g.T.BySet.places (g.T.BySet.value c.args.others.now.without) (g.T.BySet.value c.args.others.now.with) (g.T.BySet.value c.args.others.now.without) (g.T.BySet.value c.args.others.now.with)
    (g.T.BySet.value c.args.others.now.without) (g.T.BySet.value c.args.others.now.with) (λ (x y z : ℕ). x + c.args.number ≤ g.T.BySet.most) c.requires

pub returns : goal.returns
returns g c = each_half g.T.BySet.places (g.T.BySet.value c.args.others.now.without) (g.T.BySet.value c.args.others.now.with) (g.T.BySet.value c.args.limits.now.without) (g.T.BySet.value c.args.limits.now.with)
    (g.T.BySet.value c.args.limits.now.without) (g.T.BySet.value c.args.limits.now.with) (λ (x y z : ℕ). min (x + c.args.number) y) (g.T.BySet.value c.more_at_most.new.self) (g.T.BySet.value c.more_at_most-2.new.self)
    c.more_at_most.ensures c.more_at_most-2.ensures
