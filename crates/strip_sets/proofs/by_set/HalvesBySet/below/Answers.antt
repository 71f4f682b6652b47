use Rattle.std.proofs.Common.{arith}
use Rattle.strip_sets.proofs.Parts.{below_halves, parts_fit, total_parts}
use Rattle.strip_sets.proofs.by_set.HalvesBySet.below.Goals as goal

pub below-requires : goal.below-requires
below-requires g c = omega (arith, c.requires, total_parts g.T.BySet.places (g.T.BySet.value c.args.self.now.without) (g.T.BySet.value c.args.self.now.with))

pub below-requires-2 : goal.below-requires-2
below-requires-2 g c = omega (arith, c.requires, total_parts g.T.BySet.places (g.T.BySet.value c.args.self.now.without) (g.T.BySet.value c.args.self.now.with))

pub plus-requires : goal.plus-requires
plus-requires g c = parts_fit g.T.BySet.places (g.T.BySet.value c.args.self.now.without) (g.T.BySet.value c.args.self.now.with) (g.T.BySet.value c.below.new.self) (g.T.BySet.value c.below-2.new.self) c.below.ensures c.below-2.ensures
    g.T.BySet.most c.requires

pub returns : goal.returns
returns g c = below_halves g.T.BySet.places (g.T.BySet.value c.args.self.now.without) (g.T.BySet.value c.args.self.now.with) (g.T.BySet.value c.below.new.self) (g.T.BySet.value c.below-2.new.self) c.below.ensures c.below-2.ensures
    (g.T.BySet.value c.plus.new.self) c.plus.ensures
