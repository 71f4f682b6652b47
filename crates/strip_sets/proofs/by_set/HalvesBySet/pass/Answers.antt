use Rattle.std.proofs.Common.{Bor, ◌≡◌, ◌+◌, ◌*◌, ◌-◌, ◌^◌, ◌<◌, ◌≤◌, ◌∙◌, ℕ, ap, arith, max, slice_index, subst, sym}
use Rattle.strip_sets.specs.declared.by_set.Halves.{Halves}
use Rattle.strip_sets.specs.Numbers.{by_class, halves}
use Rattle.strip_sets.specs.Saving.{owes_from}
use Rattle.strip_sets.proofs.Saving.{AreParts, across_covered, across_fits, rise_across, room_in, room_out, saves_halves}
use Rattle.strip_sets.proofs.by_set.HalvesBySet.pass.Goals as goal

pub pass-requires-clause-room : goal.pass-requires-clause-room
pass-requires-clause-room g c =
    let e : AreParts g.T.BySet.places (by_class {R = Bor (Halves g.row.T.Denot)} (λ s. halves g.T.BySet.places (g.T.BySet.value s.now.without) (g.T.BySet.value s.now.with)) c.args.extras)
    (by_class {R = Bor g.row.T.Denot} (λ s. g.T.BySet.value s.now) c.without-low.result) (by_class {R = Bor g.row.T.Denot} (λ s. g.T.BySet.value s.now) c.with-high.result)
    = record { low = c.without-low.ensures; high = c.with-high.ensures } in
    let o : AreParts g.T.BySet.places (by_class {R = Bor (Halves g.row.T.Denot)} (λ s. halves g.T.BySet.places (g.T.BySet.value s.now.without) (g.T.BySet.value s.now.with)) c.args.owed)
    (by_class {R = Bor g.row.T.Denot} (λ s. g.T.BySet.value s.now) c.without-low_owed.result) (by_class {R = Bor g.row.T.Denot} (λ s. g.T.BySet.value s.now) c.with-high_owed.result)
    = record { low = c.without-low_owed.ensures; high = c.with-high_owed.ensures } in
    room_out g.T.BySet.places g.C.Count.COUNT e o (omega (arith, c.requires.few)) g.T.BySet.most c.args.holds.now (g.T.BySet.value c.args.days.now.without) (g.T.BySet.value c.args.days.now.with)
    (g.T.BySet.value c.args.self.now.without) (g.T.BySet.value c.args.self.now.with) c.requires.room

pub or_saved-requires-clause-rise : goal.or_saved-requires-clause-rise
or_saved-requires-clause-rise g c =
    let e : AreParts g.T.BySet.places (by_class {R = Bor (Halves g.row.T.Denot)} (λ s. halves g.T.BySet.places (g.T.BySet.value s.now.without) (g.T.BySet.value s.now.with)) c.args.extras)
    (by_class {R = Bor g.row.T.Denot} (λ s. g.T.BySet.value s.now) c.without-low.result) (by_class {R = Bor g.row.T.Denot} (λ s. g.T.BySet.value s.now) c.with-high.result)
    = record { low = c.without-low.ensures; high = c.with-high.ensures } in
    let o : AreParts g.T.BySet.places (by_class {R = Bor (Halves g.row.T.Denot)} (λ s. halves g.T.BySet.places (g.T.BySet.value s.now.without) (g.T.BySet.value s.now.with)) c.args.owed)
    (by_class {R = Bor g.row.T.Denot} (λ s. g.T.BySet.value s.now) c.without-low_owed.result) (by_class {R = Bor g.row.T.Denot} (λ s. g.T.BySet.value s.now) c.with-high_owed.result)
    = record { low = c.without-low_owed.ensures; high = c.with-high_owed.ensures } in
    rise_across g.T.BySet.places g.C.Count.COUNT e o (omega (arith, c.requires.few)) g.T.BySet.most c.args.holds.now (g.T.BySet.value c.args.days.now.without) (g.T.BySet.value c.args.days.now.with)
    (g.T.BySet.value c.args.self.now.without) (g.T.BySet.value c.args.self.now.with) c.requires.room

pub or_saved-requires-clause-fits : goal.or_saved-requires-clause-fits
or_saved-requires-clause-fits g c =
    let e : AreParts g.T.BySet.places (by_class {R = Bor (Halves g.row.T.Denot)} (λ s. halves g.T.BySet.places (g.T.BySet.value s.now.without) (g.T.BySet.value s.now.with)) c.args.extras)
    (by_class {R = Bor g.row.T.Denot} (λ s. g.T.BySet.value s.now) c.without-low.result) (by_class {R = Bor g.row.T.Denot} (λ s. g.T.BySet.value s.now) c.with-high.result)
    = record { low = c.without-low.ensures; high = c.with-high.ensures } in
    let o : AreParts g.T.BySet.places (by_class {R = Bor (Halves g.row.T.Denot)} (λ s. halves g.T.BySet.places (g.T.BySet.value s.now.without) (g.T.BySet.value s.now.with)) c.args.owed)
    (by_class {R = Bor g.row.T.Denot} (λ s. g.T.BySet.value s.now) c.without-low_owed.result) (by_class {R = Bor g.row.T.Denot} (λ s. g.T.BySet.value s.now) c.with-high_owed.result)
    = record { low = c.without-low_owed.ensures; high = c.with-high_owed.ensures } in
    λ set lt. subst (λ (k : ℕ). g.T.BySet.value c.pass.new.self set + slice_index c.args.holds.now k * g.T.BySet.value c.args.days.now.without set ≤ g.T.BySet.most)
    (sym c.places.ensures)
    (across_fits g.T.BySet.places g.C.Count.COUNT e o (omega (arith, c.requires.few)) g.T.BySet.most c.args.holds.now (g.T.BySet.value c.args.days.now.without) (g.T.BySet.value c.args.days.now.with)
    (g.T.BySet.value c.args.self.now.without) (g.T.BySet.value c.args.self.now.with) c.requires.room (g.T.BySet.value c.pass.new.self) c.pass.ensures set lt)

pub or_saved-requires-clause-covered : goal.or_saved-requires-clause-covered
or_saved-requires-clause-covered g c =
    let e : AreParts g.T.BySet.places (by_class {R = Bor (Halves g.row.T.Denot)} (λ s. halves g.T.BySet.places (g.T.BySet.value s.now.without) (g.T.BySet.value s.now.with)) c.args.extras)
    (by_class {R = Bor g.row.T.Denot} (λ s. g.T.BySet.value s.now) c.without-low.result) (by_class {R = Bor g.row.T.Denot} (λ s. g.T.BySet.value s.now) c.with-high.result)
    = record { low = c.without-low.ensures; high = c.with-high.ensures } in
    let o : AreParts g.T.BySet.places (by_class {R = Bor (Halves g.row.T.Denot)} (λ s. halves g.T.BySet.places (g.T.BySet.value s.now.without) (g.T.BySet.value s.now.with)) c.args.owed)
    (by_class {R = Bor g.row.T.Denot} (λ s. g.T.BySet.value s.now) c.without-low_owed.result) (by_class {R = Bor g.row.T.Denot} (λ s. g.T.BySet.value s.now) c.with-high_owed.result)
    = record { low = c.without-low_owed.ensures; high = c.with-high_owed.ensures } in
    across_covered g.T.BySet.places g.C.Count.COUNT e o (omega (arith, c.requires.few)) g.T.BySet.most c.args.holds.now (g.T.BySet.value c.args.days.now.without) (g.T.BySet.value c.args.days.now.with)
    (g.T.BySet.value c.args.self.now.without) (g.T.BySet.value c.args.self.now.with) c.requires.room (g.T.BySet.value c.pass.new.self) c.pass.ensures

pub pass-requires-2-clause-room : goal.pass-requires-2-clause-room
pass-requires-2-clause-room g c =
    let e : AreParts g.T.BySet.places (by_class {R = Bor (Halves g.row.T.Denot)} (λ s. halves g.T.BySet.places (g.T.BySet.value s.now.without) (g.T.BySet.value s.now.with)) c.args.extras)
    (by_class {R = Bor g.row.T.Denot} (λ s. g.T.BySet.value s.now) c.without-low.result) (by_class {R = Bor g.row.T.Denot} (λ s. g.T.BySet.value s.now) c.with-high.result)
    = record { low = c.without-low.ensures; high = c.with-high.ensures } in
    let o : AreParts g.T.BySet.places (by_class {R = Bor (Halves g.row.T.Denot)} (λ s. halves g.T.BySet.places (g.T.BySet.value s.now.without) (g.T.BySet.value s.now.with)) c.args.owed)
    (by_class {R = Bor g.row.T.Denot} (λ s. g.T.BySet.value s.now) c.without-low_owed.result) (by_class {R = Bor g.row.T.Denot} (λ s. g.T.BySet.value s.now) c.with-high_owed.result)
    = record { low = c.without-low_owed.ensures; high = c.with-high_owed.ensures } in
    let mid : (set : ℕ) → set < 2 ^ g.T.BySet.places → g.T.BySet.value c.or_saved.new.self set ≡ max (g.T.BySet.value c.args.self.now.with set)
    (g.T.BySet.value c.pass.new.self set + slice_index c.args.holds.now g.T.BySet.places * g.T.BySet.value c.args.days.now.without set
    - owes_from g.C.Count.COUNT (by_class {R = Bor g.row.T.Denot} (λ s. g.T.BySet.value s.now) c.with-high.result) (by_class {R = Bor g.row.T.Denot} (λ s. g.T.BySet.value s.now) c.with-high_owed.result) (by_class {R = Bor g.row.T.Denot} (λ s. g.T.BySet.value s.now) c.without-low_owed.result) set)
    = λ set lt. c.or_saved.ensures set lt ∙ ap (λ (k : ℕ). max (g.T.BySet.value c.args.self.now.with set)
    (g.T.BySet.value c.pass.new.self set + slice_index c.args.holds.now k * g.T.BySet.value c.args.days.now.without set
    - owes_from g.C.Count.COUNT (by_class {R = Bor g.row.T.Denot} (λ s. g.T.BySet.value s.now) c.with-high.result) (by_class {R = Bor g.row.T.Denot} (λ s. g.T.BySet.value s.now) c.with-high_owed.result) (by_class {R = Bor g.row.T.Denot} (λ s. g.T.BySet.value s.now) c.without-low_owed.result) set)) c.places.ensures in
    room_in g.T.BySet.places g.C.Count.COUNT e o (omega (arith, c.requires.few)) g.T.BySet.most c.args.holds.now (g.T.BySet.value c.args.days.now.without) (g.T.BySet.value c.args.days.now.with)
    (g.T.BySet.value c.args.self.now.without) (g.T.BySet.value c.args.self.now.with) c.requires.room (g.T.BySet.value c.pass.new.self) c.pass.ensures
    (g.T.BySet.value c.or_saved.new.self) mid

pub returns : goal.returns
returns g c =
    let e : AreParts g.T.BySet.places (by_class {R = Bor (Halves g.row.T.Denot)} (λ s. halves g.T.BySet.places (g.T.BySet.value s.now.without) (g.T.BySet.value s.now.with)) c.args.extras)
    (by_class {R = Bor g.row.T.Denot} (λ s. g.T.BySet.value s.now) c.without-low.result) (by_class {R = Bor g.row.T.Denot} (λ s. g.T.BySet.value s.now) c.with-high.result)
    = record { low = c.without-low.ensures; high = c.with-high.ensures } in
    let o : AreParts g.T.BySet.places (by_class {R = Bor (Halves g.row.T.Denot)} (λ s. halves g.T.BySet.places (g.T.BySet.value s.now.without) (g.T.BySet.value s.now.with)) c.args.owed)
    (by_class {R = Bor g.row.T.Denot} (λ s. g.T.BySet.value s.now) c.without-low_owed.result) (by_class {R = Bor g.row.T.Denot} (λ s. g.T.BySet.value s.now) c.with-high_owed.result)
    = record { low = c.without-low_owed.ensures; high = c.with-high_owed.ensures } in
    let mid : (set : ℕ) → set < 2 ^ g.T.BySet.places → g.T.BySet.value c.or_saved.new.self set ≡ max (g.T.BySet.value c.args.self.now.with set)
    (g.T.BySet.value c.pass.new.self set + slice_index c.args.holds.now g.T.BySet.places * g.T.BySet.value c.args.days.now.without set
    - owes_from g.C.Count.COUNT (by_class {R = Bor g.row.T.Denot} (λ s. g.T.BySet.value s.now) c.with-high.result) (by_class {R = Bor g.row.T.Denot} (λ s. g.T.BySet.value s.now) c.with-high_owed.result) (by_class {R = Bor g.row.T.Denot} (λ s. g.T.BySet.value s.now) c.without-low_owed.result) set)
    = λ set lt. c.or_saved.ensures set lt ∙ ap (λ (k : ℕ). max (g.T.BySet.value c.args.self.now.with set)
    (g.T.BySet.value c.pass.new.self set + slice_index c.args.holds.now k * g.T.BySet.value c.args.days.now.without set
    - owes_from g.C.Count.COUNT (by_class {R = Bor g.row.T.Denot} (λ s. g.T.BySet.value s.now) c.with-high.result) (by_class {R = Bor g.row.T.Denot} (λ s. g.T.BySet.value s.now) c.with-high_owed.result) (by_class {R = Bor g.row.T.Denot} (λ s. g.T.BySet.value s.now) c.without-low_owed.result) set)) c.places.ensures in
    saves_halves g.T.BySet.places g.C.Count.COUNT e o c.args.holds.now (g.T.BySet.value c.args.days.now.without) (g.T.BySet.value c.args.days.now.with) (g.T.BySet.value c.args.self.now.without) (g.T.BySet.value c.args.self.now.with)
    (g.T.BySet.value c.pass.new.self) (g.T.BySet.value c.or_saved.new.self) (g.T.BySet.value c.pass-2.new.self) c.pass.ensures
    (across_covered g.T.BySet.places g.C.Count.COUNT e o (omega (arith, c.requires.few)) g.T.BySet.most c.args.holds.now (g.T.BySet.value c.args.days.now.without) (g.T.BySet.value c.args.days.now.with)
    (g.T.BySet.value c.args.self.now.without) (g.T.BySet.value c.args.self.now.with) c.requires.room (g.T.BySet.value c.pass.new.self) c.pass.ensures)
    mid c.pass-2.ensures
