use Rattle.std.proofs.Common.{ℕ, min}
use Rattle.strip_sets.proofs.Parts.{each_half}
use Rattle.strip_sets.proofs.by_set.HalvesBySet.at_most.Goals as goal

pub returns : goal.returns
returns g c = each_half g.T.BySet.places (g.T.BySet.value c.args.self.now.without) (g.T.BySet.value c.args.self.now.with) (g.T.BySet.value c.args.self.now.without) (g.T.BySet.value c.args.self.now.with) (g.T.BySet.value c.args.self.now.without) (g.T.BySet.value c.args.self.now.with)
    (λ (x y z : ℕ). min x c.args.number) (g.T.BySet.value c.at_most.new.self) (g.T.BySet.value c.at_most-2.new.self) c.at_most.ensures c.at_most-2.ensures
