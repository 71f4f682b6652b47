use Rattle.strip_sets.proofs.Parts.{apart_halves}
use Rattle.strip_sets.proofs.by_set.HalvesBySet.none_and_others.Goals as goal

pub returns : goal.returns
returns g c = apart_halves g.T.BySet.places (g.T.BySet.value c.none_and_others.result) (g.T.BySet.value c.all.result) c.args.none c.args.others
    c.none_and_others.ensures c.all.ensures
