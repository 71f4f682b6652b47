use Rattle.std.proofs.Common.{◌+◌, ◌≤◌, ◌∙◌, ℕ, ap, arith, slice_index}
use Rattle.strip_mask.specs.Set.{meet}
use Rattle.strip_sets.proofs.Sets.{in_out, in_in}
use Rattle.strip_group.proofs.Saved.{days_halves}
use Rattle.strip_group.proofs.Places.{meet_most}
use Rattle.strip_group.proofs.by_set.HalvesBySet.with_days.Goals as goal

pub with_days-requires-clause-fits : goal.with_days-requires-clause-fits
with_days-requires-clause-fits g c = in_out g.T.BySet.places (g.T.BySet.value c.args.self.now.without) (g.T.BySet.value c.args.self.now.with)
    (λ x. x + 65535 ≤ g.T.BySet.most) c.requires.fits

pub with_days-requires-2-clause-scenes : goal.with_days-requires-2-clause-scenes
with_days-requires-2-clause-scenes g c = omega (arith, c.meet-left.ensures, meet_most c.args.scenes.0 (slice_index c.args.stays.now c.places.result), c.requires.scenes)

pub with_days-requires-2-clause-fits : goal.with_days-requires-2-clause-fits
with_days-requires-2-clause-fits g c = in_in g.T.BySet.places (g.T.BySet.value c.args.self.now.without) (g.T.BySet.value c.args.self.now.with)
    (λ x. x + 65535 ≤ g.T.BySet.most) c.requires.fits

pub returns : goal.returns
returns g c = days_halves g.T.BySet.places (g.T.BySet.value c.args.self.now.without) (g.T.BySet.value c.args.self.now.with) (g.T.BySet.value c.with_days.result)
    (g.T.BySet.value c.with_days-2.result)
    c.args.table.now c.args.stays.now c.args.scenes.0 c.meet-left.result.0 (c.meet-left.ensures ∙ ap (λ (k : ℕ). meet c.args.scenes.0
    (slice_index c.args.stays.now k)) c.places.ensures)
    c.with_days.ensures c.with_days-2.ensures
