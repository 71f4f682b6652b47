use Rattle.std.proofs.Common.{◌≡◌, sym}
use Rattle.strip_mask.specs.Set.{with}
use Rattle.strip_sets.specs.declared.by_set.Halves.{Halves}
use Rattle.strip_sets.specs.Numbers.{halves}
use Rattle.strip_sets.proofs.ByClass.{same_two}
use Rattle.strip_sets.proofs.Sets.{halves_at}
use Rattle.strip_sets.proofs.by_set.Classes+ref+Halves+T.with.Goals as goal

pub returns : goal.returns
returns g c = λ class set lt. (
    let each : (x : Halves g.row.T.Denot) → g.T.BySet.value x.with set ≡ halves g.T.BySet.places (g.T.BySet.value x.without) (g.T.BySet.value x.with) (with set g.T.BySet.places) = λ x. sym (halves_at g.T.BySet.places (g.T.BySet.value x.without) (g.T.BySet.value x.with) set lt) in
    same_two (each c.args.self.first.now) (each c.args.self.second.now) class)
