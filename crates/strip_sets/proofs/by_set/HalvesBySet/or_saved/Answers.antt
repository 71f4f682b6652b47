use Rattle.std.proofs.Common.{Bor, ◌+◌, ◌*◌, ◌≤◌, ℕ}
use Rattle.strip_sets.specs.declared.by_set.Halves.{Halves}
use Rattle.strip_sets.specs.Numbers.{by_class, halves}
use Rattle.strip_sets.proofs.Parts.{of_with, of_without}
use Rattle.strip_sets.proofs.Saving.{AreParts, covered_high, covered_low, rise_high, rise_low, saved_halves}
use Rattle.strip_sets.proofs.by_set.HalvesBySet.or_saved.Goals as goal

pub or_saved-requires-clause-rise : goal.or_saved-requires-clause-rise
or_saved-requires-clause-rise g c =
    let e : AreParts g.T.BySet.places (by_class {R = Bor (Halves g.row.T.Denot)} (λ s. halves g.T.BySet.places (g.T.BySet.value s.now.without) (g.T.BySet.value s.now.with)) c.args.extras)
    (by_class {R = Bor g.row.T.Denot} (λ s. g.T.BySet.value s.now) c.without-low.result) (by_class {R = Bor g.row.T.Denot} (λ s. g.T.BySet.value s.now) c.with-high.result)
    = record { low = c.without-low.ensures; high = c.with-high.ensures } in
    let o : AreParts g.T.BySet.places (by_class {R = Bor (Halves g.row.T.Denot)} (λ s. halves g.T.BySet.places (g.T.BySet.value s.now.without) (g.T.BySet.value s.now.with)) c.args.owed)
    (by_class {R = Bor g.row.T.Denot} (λ s. g.T.BySet.value s.now) c.without-low_owed.result) (by_class {R = Bor g.row.T.Denot} (λ s. g.T.BySet.value s.now) c.with-high_owed.result)
    = record { low = c.without-low_owed.ensures; high = c.with-high_owed.ensures } in
    let b : AreParts g.T.BySet.places (by_class {R = Bor (Halves g.row.T.Denot)} (λ s. halves g.T.BySet.places (g.T.BySet.value s.now.without) (g.T.BySet.value s.now.with)) c.args.owed_before)
    (by_class {R = Bor g.row.T.Denot} (λ s. g.T.BySet.value s.now) c.without-low_before.result) (by_class {R = Bor g.row.T.Denot} (λ s. g.T.BySet.value s.now) c.with-high_before.result)
    = record { low = c.without-low_before.ensures; high = c.with-high_before.ensures } in
    rise_low g.T.BySet.places g.C.Count.COUNT e o b c.requires.rise

pub or_saved-requires-clause-fits : goal.or_saved-requires-clause-fits
or_saved-requires-clause-fits g c = of_without g.T.BySet.places (g.T.BySet.value c.args.others.now.without) (g.T.BySet.value c.args.others.now.with) (g.T.BySet.value c.args.days_before.now.without) (g.T.BySet.value c.args.days_before.now.with)
    (g.T.BySet.value c.args.days_before.now.without) (g.T.BySet.value c.args.days_before.now.with) (λ (x y z : ℕ). x + c.args.hold * y ≤ g.T.BySet.most) c.requires.fits

pub or_saved-requires-clause-covered : goal.or_saved-requires-clause-covered
or_saved-requires-clause-covered g c =
    let e : AreParts g.T.BySet.places (by_class {R = Bor (Halves g.row.T.Denot)} (λ s. halves g.T.BySet.places (g.T.BySet.value s.now.without) (g.T.BySet.value s.now.with)) c.args.extras)
    (by_class {R = Bor g.row.T.Denot} (λ s. g.T.BySet.value s.now) c.without-low.result) (by_class {R = Bor g.row.T.Denot} (λ s. g.T.BySet.value s.now) c.with-high.result)
    = record { low = c.without-low.ensures; high = c.with-high.ensures } in
    let o : AreParts g.T.BySet.places (by_class {R = Bor (Halves g.row.T.Denot)} (λ s. halves g.T.BySet.places (g.T.BySet.value s.now.without) (g.T.BySet.value s.now.with)) c.args.owed)
    (by_class {R = Bor g.row.T.Denot} (λ s. g.T.BySet.value s.now) c.without-low_owed.result) (by_class {R = Bor g.row.T.Denot} (λ s. g.T.BySet.value s.now) c.with-high_owed.result)
    = record { low = c.without-low_owed.ensures; high = c.with-high_owed.ensures } in
    let b : AreParts g.T.BySet.places (by_class {R = Bor (Halves g.row.T.Denot)} (λ s. halves g.T.BySet.places (g.T.BySet.value s.now.without) (g.T.BySet.value s.now.with)) c.args.owed_before)
    (by_class {R = Bor g.row.T.Denot} (λ s. g.T.BySet.value s.now) c.without-low_before.result) (by_class {R = Bor g.row.T.Denot} (λ s. g.T.BySet.value s.now) c.with-high_before.result)
    = record { low = c.without-low_before.ensures; high = c.with-high_before.ensures } in
    covered_low g.T.BySet.places g.C.Count.COUNT e o b (g.T.BySet.value c.args.others.now.without) (g.T.BySet.value c.args.others.now.with) c.requires.covered

pub or_saved-requires-2-clause-rise : goal.or_saved-requires-2-clause-rise
or_saved-requires-2-clause-rise g c =
    let e : AreParts g.T.BySet.places (by_class {R = Bor (Halves g.row.T.Denot)} (λ s. halves g.T.BySet.places (g.T.BySet.value s.now.without) (g.T.BySet.value s.now.with)) c.args.extras)
    (by_class {R = Bor g.row.T.Denot} (λ s. g.T.BySet.value s.now) c.without-low.result) (by_class {R = Bor g.row.T.Denot} (λ s. g.T.BySet.value s.now) c.with-high.result)
    = record { low = c.without-low.ensures; high = c.with-high.ensures } in
    let o : AreParts g.T.BySet.places (by_class {R = Bor (Halves g.row.T.Denot)} (λ s. halves g.T.BySet.places (g.T.BySet.value s.now.without) (g.T.BySet.value s.now.with)) c.args.owed)
    (by_class {R = Bor g.row.T.Denot} (λ s. g.T.BySet.value s.now) c.without-low_owed.result) (by_class {R = Bor g.row.T.Denot} (λ s. g.T.BySet.value s.now) c.with-high_owed.result)
    = record { low = c.without-low_owed.ensures; high = c.with-high_owed.ensures } in
    let b : AreParts g.T.BySet.places (by_class {R = Bor (Halves g.row.T.Denot)} (λ s. halves g.T.BySet.places (g.T.BySet.value s.now.without) (g.T.BySet.value s.now.with)) c.args.owed_before)
    (by_class {R = Bor g.row.T.Denot} (λ s. g.T.BySet.value s.now) c.without-low_before.result) (by_class {R = Bor g.row.T.Denot} (λ s. g.T.BySet.value s.now) c.with-high_before.result)
    = record { low = c.without-low_before.ensures; high = c.with-high_before.ensures } in
    rise_high g.T.BySet.places g.C.Count.COUNT e o b c.requires.rise

pub or_saved-requires-2-clause-fits : goal.or_saved-requires-2-clause-fits
or_saved-requires-2-clause-fits g c = of_with g.T.BySet.places (g.T.BySet.value c.args.others.now.without) (g.T.BySet.value c.args.others.now.with) (g.T.BySet.value c.args.days_before.now.without) (g.T.BySet.value c.args.days_before.now.with)
    (g.T.BySet.value c.args.days_before.now.without) (g.T.BySet.value c.args.days_before.now.with) (λ (x y z : ℕ). x + c.args.hold * y ≤ g.T.BySet.most) c.requires.fits

pub or_saved-requires-2-clause-covered : goal.or_saved-requires-2-clause-covered
or_saved-requires-2-clause-covered g c =
    let e : AreParts g.T.BySet.places (by_class {R = Bor (Halves g.row.T.Denot)} (λ s. halves g.T.BySet.places (g.T.BySet.value s.now.without) (g.T.BySet.value s.now.with)) c.args.extras)
    (by_class {R = Bor g.row.T.Denot} (λ s. g.T.BySet.value s.now) c.without-low.result) (by_class {R = Bor g.row.T.Denot} (λ s. g.T.BySet.value s.now) c.with-high.result)
    = record { low = c.without-low.ensures; high = c.with-high.ensures } in
    let o : AreParts g.T.BySet.places (by_class {R = Bor (Halves g.row.T.Denot)} (λ s. halves g.T.BySet.places (g.T.BySet.value s.now.without) (g.T.BySet.value s.now.with)) c.args.owed)
    (by_class {R = Bor g.row.T.Denot} (λ s. g.T.BySet.value s.now) c.without-low_owed.result) (by_class {R = Bor g.row.T.Denot} (λ s. g.T.BySet.value s.now) c.with-high_owed.result)
    = record { low = c.without-low_owed.ensures; high = c.with-high_owed.ensures } in
    let b : AreParts g.T.BySet.places (by_class {R = Bor (Halves g.row.T.Denot)} (λ s. halves g.T.BySet.places (g.T.BySet.value s.now.without) (g.T.BySet.value s.now.with)) c.args.owed_before)
    (by_class {R = Bor g.row.T.Denot} (λ s. g.T.BySet.value s.now) c.without-low_before.result) (by_class {R = Bor g.row.T.Denot} (λ s. g.T.BySet.value s.now) c.with-high_before.result)
    = record { low = c.without-low_before.ensures; high = c.with-high_before.ensures } in
    covered_high g.T.BySet.places g.C.Count.COUNT e o b (g.T.BySet.value c.args.others.now.without) (g.T.BySet.value c.args.others.now.with) c.requires.covered

pub returns : goal.returns
returns g c =
    let e : AreParts g.T.BySet.places (by_class {R = Bor (Halves g.row.T.Denot)} (λ s. halves g.T.BySet.places (g.T.BySet.value s.now.without) (g.T.BySet.value s.now.with)) c.args.extras)
    (by_class {R = Bor g.row.T.Denot} (λ s. g.T.BySet.value s.now) c.without-low.result) (by_class {R = Bor g.row.T.Denot} (λ s. g.T.BySet.value s.now) c.with-high.result)
    = record { low = c.without-low.ensures; high = c.with-high.ensures } in
    let o : AreParts g.T.BySet.places (by_class {R = Bor (Halves g.row.T.Denot)} (λ s. halves g.T.BySet.places (g.T.BySet.value s.now.without) (g.T.BySet.value s.now.with)) c.args.owed)
    (by_class {R = Bor g.row.T.Denot} (λ s. g.T.BySet.value s.now) c.without-low_owed.result) (by_class {R = Bor g.row.T.Denot} (λ s. g.T.BySet.value s.now) c.with-high_owed.result)
    = record { low = c.without-low_owed.ensures; high = c.with-high_owed.ensures } in
    let b : AreParts g.T.BySet.places (by_class {R = Bor (Halves g.row.T.Denot)} (λ s. halves g.T.BySet.places (g.T.BySet.value s.now.without) (g.T.BySet.value s.now.with)) c.args.owed_before)
    (by_class {R = Bor g.row.T.Denot} (λ s. g.T.BySet.value s.now) c.without-low_before.result) (by_class {R = Bor g.row.T.Denot} (λ s. g.T.BySet.value s.now) c.with-high_before.result)
    = record { low = c.without-low_before.ensures; high = c.with-high_before.ensures } in
    saved_halves g.T.BySet.places g.C.Count.COUNT e o b c.args.hold (g.T.BySet.value c.args.self.now.without) (g.T.BySet.value c.args.self.now.with) (g.T.BySet.value c.args.others.now.without) (g.T.BySet.value c.args.others.now.with)
    (g.T.BySet.value c.args.days_before.now.without) (g.T.BySet.value c.args.days_before.now.with) (g.T.BySet.value c.or_saved.new.self) (g.T.BySet.value c.or_saved-2.new.self) c.or_saved.ensures c.or_saved-2.ensures
