use Rattle.std.proofs.Common.{◌*◌, ◌-◌, ℕ, arith, slice_index}
use Rattle.strip_sets.specs.Numbers.{by_class}
use Rattle.strip_sets.proofs.Owed.{by_count, counts, first_count}
use Rattle.strip_sets.proofs.Vectors.{same_at}
use Rattle.strip_sets.proofs.lanes.owed_from.Goals as goal

pub plus_owed-sum-requires-clause-rise : goal.plus_owed-sum-requires-clause-rise
plus_owed-sum-requires-clause-rise g c = λ lane lt there. c.requires.rise 0 lane (omega (arith, counts 0 c.COUNT.result there, c.COUNT.ensures)) lt

pub plus_owed-sum-requires-clause-fits : goal.plus_owed-sum-requires-clause-fits
plus_owed-sum-requires-clause-fits g c = λ lane lt. (
    let f : ℕ → ℕ = λ class. by_class slice_index c.args.extras class lane * (by_class slice_index c.args.days class lane - by_class slice_index c.args.before class lane) in
    omega (arith, c.requires.fits lane lt, same_at 0 lane lt, first_count g.C.Count.COUNT c.requires.classes f c.COUNT.result c.COUNT.ensures))

pub plus_owed-requires-clause-rise : goal.plus_owed-requires-clause-rise
plus_owed-requires-clause-rise g c = λ lane lt there. c.requires.rise 1 lane (omega (arith, counts 1 c.COUNT-2.result there, c.COUNT-2.ensures)) lt

pub plus_owed-requires-clause-fits : goal.plus_owed-requires-clause-fits
plus_owed-requires-clause-fits g c = λ lane lt. (
    let f : ℕ → ℕ = λ class. by_class slice_index c.args.extras class lane * (by_class slice_index c.args.days class lane - by_class slice_index c.args.before class lane) in
    omega (
      arith,
      c.requires.fits lane lt,
      same_at 0 lane lt,
      by_count g.C.Count.COUNT c.requires.classes f c.COUNT.result c.COUNT-2.result c.COUNT.ensures c.COUNT-2.ensures,
      c.plus_owed-sum.ensures.each lane lt,
    ))

pub returns-clause-each : goal.returns-clause-each
returns-clause-each g c = λ lane lt. (
    let f : ℕ → ℕ = λ class. by_class slice_index c.args.extras class lane * (by_class slice_index c.args.days class lane - by_class slice_index c.args.before class lane) in
    omega (
      arith,
      same_at 0 lane lt,
      by_count g.C.Count.COUNT c.requires.classes f c.COUNT.result c.COUNT-2.result c.COUNT.ensures c.COUNT-2.ensures,
      c.plus_owed-sum.ensures.each lane lt,
      c.plus_owed.ensures.each lane lt,
    ))
