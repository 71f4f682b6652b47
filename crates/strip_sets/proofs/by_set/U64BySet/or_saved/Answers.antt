use Rattle.std.proofs.Common.{Bor, ◌≡◌, ◌*◌, ◌-◌, ℕ, arith}
use Rattle.strip_mask.specs.Sums.{sum_below}
use Rattle.strip_sets.specs.Numbers.{by_class}
use Rattle.strip_sets.proofs.Owed.{by_count, counts, first_count}
use Rattle.strip_sets.proofs.by_set.U64BySet.or_saved.Goals as goal

pub or_owed-sum-requires-clause-rise : goal.or_owed-sum-requires-clause-rise
or_owed-sum-requires-clause-rise g c = λ there. c.requires.rise 0 0 (omega (arith, counts 0 c.COUNT.result there, c.COUNT.ensures)) (omega arith)

pub or_owed-sum-requires-clause-fits : goal.or_owed-sum-requires-clause-fits
or_owed-sum-requires-clause-fits g c =
    let f : ℕ → ℕ = λ class. (by_class {R = Bor ℕ} (λ s _. s.now) c.args.extras) class 0 * ((by_class {R = Bor ℕ} (λ s _. s.now) c.args.owed) class 0 - (by_class {R = Bor ℕ} (λ s _. s.now) c.args.owed_before) class 0) in
    omega (
      arith,
      c.requires.fits 0 (omega arith),
      c.requires.covered 0 (omega arith),
      first_count g.C.Count.COUNT c.requires.classes f c.COUNT.result c.COUNT.ensures,
    )

pub or_owed-sum-requires-2-clause-rise : goal.or_owed-sum-requires-2-clause-rise
or_owed-sum-requires-2-clause-rise g c = λ there. c.requires.rise 1 0 (omega (arith, counts 1 c.COUNT-2.result there, c.COUNT-2.ensures)) (omega arith)

pub or_owed-sum-requires-2-clause-fits : goal.or_owed-sum-requires-2-clause-fits
or_owed-sum-requires-2-clause-fits g c =
    let f : ℕ → ℕ = λ class. (by_class {R = Bor ℕ} (λ s _. s.now) c.args.extras) class 0 * ((by_class {R = Bor ℕ} (λ s _. s.now) c.args.owed) class 0 - (by_class {R = Bor ℕ} (λ s _. s.now) c.args.owed_before) class 0) in
    omega (
      arith,
      c.requires.fits 0 (omega arith),
      c.requires.covered 0 (omega arith),
      by_count g.C.Count.COUNT c.requires.classes f c.COUNT.result c.COUNT-2.result c.COUNT.ensures c.COUNT-2.ensures,
      c.or_owed-sum.ensures,
    )

pub overflow_mul-hold : goal.overflow_mul-hold
overflow_mul-hold g c = record { fits = omega (arith, c.requires.fits 0 (omega arith)) }

pub overflow_add-others : goal.overflow_add-others
overflow_add-others g c = record { fits = omega (arith, c.requires.fits 0 (omega arith)) }

pub overflow_sub-others : goal.overflow_sub-others
overflow_sub-others g c =
    let f : ℕ → ℕ = λ class. (by_class {R = Bor ℕ} (λ s _. s.now) c.args.extras) class 0 * ((by_class {R = Bor ℕ} (λ s _. s.now) c.args.owed) class 0 - (by_class {R = Bor ℕ} (λ s _. s.now) c.args.owed_before) class 0) in
    let total : c.or_owed-sum-2.result ≡ sum_below g.C.Count.COUNT f = omega (
      arith,
      by_count g.C.Count.COUNT c.requires.classes f c.COUNT.result c.COUNT-2.result c.COUNT.ensures c.COUNT-2.ensures,
      c.or_owed-sum.ensures,
      c.or_owed-sum-2.ensures,
    ) in
    omega (arith, total, c.requires.covered 0 (omega arith))

pub returns : goal.returns
returns g c =
    let f : ℕ → ℕ = λ class. (by_class {R = Bor ℕ} (λ s _. s.now) c.args.extras) class 0 * ((by_class {R = Bor ℕ} (λ s _. s.now) c.args.owed) class 0 - (by_class {R = Bor ℕ} (λ s _. s.now) c.args.owed_before) class 0) in
    let total : c.or_owed-sum-2.result ≡ sum_below g.C.Count.COUNT f = omega (
      arith,
      by_count g.C.Count.COUNT c.requires.classes f c.COUNT.result c.COUNT-2.result c.COUNT.ensures c.COUNT-2.ensures,
      c.or_owed-sum.ensures,
      c.or_owed-sum-2.ensures,
    ) in
    λ set lt. omega (arith, c.max.ensures, total)
