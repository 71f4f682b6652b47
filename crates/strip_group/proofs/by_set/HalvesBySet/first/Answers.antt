use Rattle.std.proofs.Common.{◌∙◌, sym}
use Rattle.strip_group.proofs.Alone.{halves_empty}
use Rattle.strip_group.proofs.by_set.HalvesBySet.first.Goals as goal

pub returns : goal.returns
returns g c = c.first.ensures ∙ sym (halves_empty g.T.BySet.places (g.T.BySet.value c.args.self.now.without) (g.T.BySet.value c.args.self.now.with))
