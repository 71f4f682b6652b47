use Rattle.strip_group.proofs.Saved.{after_halves, fits_in, fits_out}
use Rattle.strip_group.proofs.by_set.HalvesBySet.or_after.Goals as goal

pub or_after-requires-clause-fits : goal.or_after-requires-clause-fits
or_after-requires-clause-fits g c = fits_out g.T.BySet.places (g.T.BySet.value c.args.others.now.without) (g.T.BySet.value c.args.others.now.with)
    (g.T.BySet.value c.args.days.now.without) (g.T.BySet.value c.args.days.now.with) c.args.rate g.T.BySet.most c.requires.fits

pub or_after-requires-2-clause-fits : goal.or_after-requires-2-clause-fits
or_after-requires-2-clause-fits g c = fits_in g.T.BySet.places (g.T.BySet.value c.args.others.now.without) (g.T.BySet.value c.args.others.now.with)
    (g.T.BySet.value c.args.days.now.without) (g.T.BySet.value c.args.days.now.with) c.args.rate g.T.BySet.most c.requires.fits

pub returns : goal.returns
returns g c = after_halves g.T.BySet.places (g.T.BySet.value c.args.others.now.without) (g.T.BySet.value c.args.others.now.with)
    (g.T.BySet.value c.args.days.now.without) (g.T.BySet.value c.args.days.now.with) (g.T.BySet.value c.args.self.now.without) (g.T.BySet.value c.args.self.now.with)
    (g.T.BySet.value c.or_after.result) (g.T.BySet.value c.or_after-2.result) c.args.rate c.or_after.ensures c.or_after-2.ensures
