use Rattle.std.proofs.Common.{◌∙◌, sym}
use Rattle.strip_sets.proofs.Sets.{halves_full}
use Rattle.strip_group.proofs.by_set.HalvesBySet.last.Goals as goal

pub returns : goal.returns
returns g c = c.last.ensures ∙ sym (halves_full g.T.BySet.places (g.T.BySet.value c.args.self.now.without) (g.T.BySet.value c.args.self.now.with))
