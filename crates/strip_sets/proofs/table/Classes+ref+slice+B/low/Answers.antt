use Rattle.strip_sets.proofs.Blocks.{number_take}
use Rattle.strip_sets.proofs.ByClass.{same_two}
use Rattle.strip_sets.proofs.table.Classes+ref+slice+B.low.Goals as goal

pub returns-clause-same : goal.returns-clause-same
returns-clause-same g c = λ class set lt. same_two (number_take g.B.BySet.value g.B.BySet.places c.args.half c.args.self.first.now set c.requires.0 lt)
    (number_take g.B.BySet.value g.B.BySet.places c.args.half c.args.self.second.now set c.requires.1 lt) class
