use Rattle.std.proofs.Common.{◌+◌, ◌*◌, ◌-◌, ◌≤◌, ℕ, max}
use Rattle.strip_sets.proofs.Parts.{each_half_of_five, of_with, of_without}
use Rattle.strip_sets.proofs.by_set.HalvesBySet.greater_with.Goals as goal

pub greater_with-requires-clause-fits : goal.greater_with-requires-clause-fits
greater_with-requires-clause-fits g c = of_without g.T.BySet.places (g.T.BySet.value c.args.others.now.without) (g.T.BySet.value c.args.others.now.with) (g.T.BySet.value c.args.paid.now.without) (g.T.BySet.value c.args.paid.now.with)
    (g.T.BySet.value c.args.paid.now.without) (g.T.BySet.value c.args.paid.now.with) (λ (x y z : ℕ). x + c.args.rate * y ≤ g.T.BySet.most) c.requires.fits

pub greater_with-requires-clause-covered : goal.greater_with-requires-clause-covered
greater_with-requires-clause-covered g c = of_without g.T.BySet.places (g.T.BySet.value c.args.extras.now.without) (g.T.BySet.value c.args.extras.now.with) (g.T.BySet.value c.args.owed.now.without) (g.T.BySet.value c.args.owed.now.with)
    (g.T.BySet.value c.args.others.now.without) (g.T.BySet.value c.args.others.now.with) (λ (x y z : ℕ). x * y ≤ z) c.requires.covered

pub greater_with-requires-2-clause-fits : goal.greater_with-requires-2-clause-fits
greater_with-requires-2-clause-fits g c = of_with g.T.BySet.places (g.T.BySet.value c.args.others.now.without) (g.T.BySet.value c.args.others.now.with) (g.T.BySet.value c.args.paid.now.without) (g.T.BySet.value c.args.paid.now.with)
    (g.T.BySet.value c.args.paid.now.without) (g.T.BySet.value c.args.paid.now.with) (λ (x y z : ℕ). x + c.args.rate * y ≤ g.T.BySet.most) c.requires.fits

pub greater_with-requires-2-clause-covered : goal.greater_with-requires-2-clause-covered
greater_with-requires-2-clause-covered g c = of_with g.T.BySet.places (g.T.BySet.value c.args.extras.now.without) (g.T.BySet.value c.args.extras.now.with) (g.T.BySet.value c.args.owed.now.without) (g.T.BySet.value c.args.owed.now.with)
    (g.T.BySet.value c.args.others.now.without) (g.T.BySet.value c.args.others.now.with) (λ (x y z : ℕ). x * y ≤ z) c.requires.covered

pub returns : goal.returns
returns g c = each_half_of_five g.T.BySet.places (g.T.BySet.value c.args.self.now.without) (g.T.BySet.value c.args.self.now.with) (g.T.BySet.value c.args.others.now.without) (g.T.BySet.value c.args.others.now.with)
    (g.T.BySet.value c.args.paid.now.without) (g.T.BySet.value c.args.paid.now.with) (g.T.BySet.value c.args.extras.now.without) (g.T.BySet.value c.args.extras.now.with) (g.T.BySet.value c.args.owed.now.without) (g.T.BySet.value c.args.owed.now.with)
    (λ (v w x y z : ℕ). max v (w + c.args.rate * x - y * z)) (g.T.BySet.value c.greater_with.new.self) (g.T.BySet.value c.greater_with-2.new.self)
    c.greater_with.ensures c.greater_with-2.ensures
