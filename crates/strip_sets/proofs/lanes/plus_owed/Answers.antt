use Rattle.std.proofs.Common.{◌≡◌, ◌+◌, ◌*◌, ◌-◌, ◌<◌, ◌∙◌, ℕ, ap, arith, slice_index}
use Rattle.strip_sets.specs.Numbers.{counted}
use Rattle.strip_sets.proofs.Vectors.{differences_fit, owing, owing_at, owing_fit, owing_lanes, sum_at, sums_fit}
use Rattle.strip_sets.proofs.lanes.plus_owed.Goals.{then-counts, else-counts}
use Rattle.strip_sets.proofs.lanes.plus_owed.Goals as goal

pub overflow_sub-result : goal.overflow_sub-result
overflow_sub-result c = differences_fit c.args.days c.args.before c.requires.lanes.2 c.requires.lanes.3 (λ i lt. c.requires.rise i lt c.if-counts.true)

pub overflow_mul-result : goal.overflow_mul-result
overflow_mul-result c = owing_fit c.args.extras c.args.days c.args.before c.requires.lanes.1 c.requires.lanes.2 c.requires.lanes.3
    (λ i lt. (let debt : ℕ = slice_index c.args.extras i * (slice_index c.args.days i - slice_index c.args.before i) in
    let fit : slice_index c.args.sum i + counted c.args.counts debt < 4294967296 = c.requires.fits i lt in
    let counts : counted c.args.counts debt ≡ debt = ap (λ t. counted t debt) c.if-counts.true in
    omega (arith, fit, counts)))

pub overflow_add-result : goal.overflow_add-result
overflow_add-result c = sums_fit c.args.sum (owing c.args.extras c.args.days c.args.before c.requires.lanes.1 c.requires.lanes.2 c.requires.lanes.3) c.requires.lanes.0
    (owing_lanes c.args.extras c.args.days c.args.before c.requires.lanes.1 c.requires.lanes.2 c.requires.lanes.3)
    (λ i lt. (let debt : ℕ = slice_index c.args.extras i * (slice_index c.args.days i - slice_index c.args.before i) in
    let fit : slice_index c.args.sum i + counted c.args.counts debt < 4294967296 = c.requires.fits i lt in
    let counts : counted c.args.counts debt ≡ debt = ap (λ t. counted t debt) c.if-counts.true in
    let here = owing_at c.args.extras c.args.days c.args.before c.requires.lanes.1 c.requires.lanes.2 c.requires.lanes.3 i lt in
    omega (arith, fit, counts, here)))

pub returns-clause-each : goal.returns-clause-each
returns-clause-each c = elim c.if-counts.branch [
  | then-counts w ↦ λ i lt. (let debt : ℕ = slice_index c.args.extras i * (slice_index c.args.days i - slice_index c.args.before i) in
      let counts : counted c.args.counts debt ≡ debt = ap (λ t. counted t debt) w.if-counts.true in
      let here = owing_at c.args.extras c.args.days c.args.before c.requires.lanes.1 c.requires.lanes.2 c.requires.lanes.3 i lt in
      let sum = sum_at c.args.sum (owing c.args.extras c.args.days c.args.before c.requires.lanes.1 c.requires.lanes.2 c.requires.lanes.3) c.requires.lanes.0
      (owing_lanes c.args.extras c.args.days c.args.before c.requires.lanes.1 c.requires.lanes.2 c.requires.lanes.3) i lt in
      ap (λ xs. slice_index xs i) w.result-is ∙ omega (arith, counts, here, sum))
  | else-counts w ↦ λ i lt. (let debt : ℕ = slice_index c.args.extras i * (slice_index c.args.days i - slice_index c.args.before i) in
      let counts : counted c.args.counts debt ≡ 0 = ap (λ t. counted t debt) w.if-counts.false in
      ap (λ xs. slice_index xs i) w.result-is ∙ omega (arith, counts))
]
