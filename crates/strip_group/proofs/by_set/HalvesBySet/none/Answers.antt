use Rattle.std.proofs.Common.{◌≡◌}
use Rattle.strip_sets.proofs.Sets.{without_top, by_parts}
use Rattle.strip_group.proofs.by_set.HalvesBySet.none.Goals as goal

pub returns : goal.returns
returns g c = by_parts g.T.BySet.places (g.T.BySet.value c.none.result) (g.T.BySet.value c.none-2.result) (λ set x. x ≡ 0)
    (λ set small _. c.none.ensures set small)
    (λ set small _. c.none-2.ensures _ (without_top g.T.BySet.places set small))
