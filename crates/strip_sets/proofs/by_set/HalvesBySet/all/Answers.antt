use Rattle.std.proofs.Common.{◌≡◌}
use Rattle.strip_sets.proofs.Sets.{by_parts, without_top}
use Rattle.strip_sets.proofs.by_set.HalvesBySet.all.Goals as goal

pub returns : goal.returns
returns g c = by_parts g.T.BySet.places (g.T.BySet.value c.all.result) (g.T.BySet.value c.all-2.result) (λ set x. x ≡ c.args.number)
    (λ set small _. c.all.ensures set small)
    (λ set small _. c.all-2.ensures _ (without_top g.T.BySet.places set small))
