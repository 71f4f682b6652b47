use Rattle.std.proofs.Common.{◌≡◌, sym}
use Rattle.strip_sets.specs.declared.by_set.Halves.{Halves}
use Rattle.strip_sets.specs.Numbers.{halves}
use Rattle.strip_sets.proofs.ByClass.{same_two}
use Rattle.strip_sets.proofs.Sets.{halves_out, lacks_top}
use Rattle.strip_sets.proofs.by_set.Classes+ref+Halves+T.without.Goals as goal

pub returns : goal.returns
returns g c = λ class set lt. (
    let each : (x : Halves g.row.T.Denot) → g.T.BySet.value x.without set ≡ halves g.T.BySet.places (g.T.BySet.value x.without) (g.T.BySet.value x.with) set = λ x. sym (halves_out g.T.BySet.places (g.T.BySet.value x.without) (g.T.BySet.value x.with) set (lacks_top g.T.BySet.places set lt)) in
    same_two (each c.args.self.first.now) (each c.args.self.second.now) class)
