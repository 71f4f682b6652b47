use Rattle.std.proofs.Common.{◌+◌, ◌*◌, ◌≤◌, ◌∙◌, ℕ, ap, subst, sym, max, slice_index}
use Rattle.strip_group.proofs.Saved.{after_fits, room_in, room_out, saves_halves}
use Rattle.strip_group.proofs.by_set.HalvesBySet.saved.Goals as goal

pub saved-without-requires-clause-room : goal.saved-without-requires-clause-room
saved-without-requires-clause-room g c = room_out g.T.BySet.places g.T.BySet.most c.requires.few c.args.rates.now (g.T.BySet.value c.args.days.now.without)
    (g.T.BySet.value c.args.days.now.with)
    (g.T.BySet.value c.args.self.now.without) (g.T.BySet.value c.args.self.now.with) c.requires.room

pub or_after-after-requires-clause-fits : goal.or_after-after-requires-clause-fits
or_after-after-requires-clause-fits g c = λ set small.
    subst (λ (k : ℕ). g.T.BySet.value c.saved-without.result set + slice_index c.args.rates.now k * g.T.BySet.value c.args.days.now.with set ≤ g.T.BySet.most)
    (sym c.places.ensures)
    (after_fits g.T.BySet.places g.T.BySet.most c.requires.few c.args.rates.now (g.T.BySet.value c.args.days.now.without) (g.T.BySet.value c.args.days.now.with)
    (g.T.BySet.value c.args.self.now.without) (g.T.BySet.value c.args.self.now.with) c.requires.room (g.T.BySet.value c.saved-without.result) c.saved-without.ensures set small)

pub saved-requires-clause-room : goal.saved-requires-clause-room
saved-requires-clause-room g c = room_in g.T.BySet.places g.T.BySet.most c.requires.few c.args.rates.now (g.T.BySet.value c.args.days.now.without)
    (g.T.BySet.value c.args.days.now.with)
    (g.T.BySet.value c.args.self.now.without) (g.T.BySet.value c.args.self.now.with) c.requires.room (g.T.BySet.value c.saved-without.result) c.saved-without.ensures
    (g.T.BySet.value c.or_after-after.result)
    (λ set small. c.or_after-after.ensures set small
    ∙ ap (λ (k : ℕ). max (g.T.BySet.value c.args.self.now.with set)
    (g.T.BySet.value c.saved-without.result set + slice_index c.args.rates.now k * g.T.BySet.value c.args.days.now.with set)) c.places.ensures)

pub returns : goal.returns
returns g c = saves_halves g.T.BySet.places c.args.rates.now (g.T.BySet.value c.args.days.now.without) (g.T.BySet.value c.args.days.now.with)
    (g.T.BySet.value c.args.self.now.without) (g.T.BySet.value c.args.self.now.with) (g.T.BySet.value c.saved-without.result) (g.T.BySet.value c.or_after-after.result)
    (g.T.BySet.value c.saved.result)
    c.saved-without.ensures
    (λ set small. c.or_after-after.ensures set small
    ∙ ap (λ (k : ℕ). max (g.T.BySet.value c.args.self.now.with set)
    (g.T.BySet.value c.saved-without.result set + slice_index c.args.rates.now k * g.T.BySet.value c.args.days.now.with set)) c.places.ensures)
    c.saved.ensures
