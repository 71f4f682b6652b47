use Rattle.std.proofs.Common.{◌≡◌, ◌+◌, ◌*◌, ◌∙◌, ℕ, ap, arith, length, max, slice_index}
use lib.Lanes.{zip2}
use Rattle.strip_sets.proofs.Vectors.{products_fit, sums_fit, product_at, sum_at, product_lanes, sum_lanes}
use Rattle.strip_group.proofs.Lanes.{greater_at, greater_lanes}
use Rattle.strip_group.proofs.by_set.or_paid.Goals as goal

pub overflow_mul-result : goal.overflow_mul-result
overflow_mul-result c = products_fit c.args.rates c.args.days c.requires.lanes.3 c.requires.lanes.2 (λ i lt. omega (arith, c.requires.fits i lt))

pub overflow_add-result : goal.overflow_add-result
overflow_add-result c = sums_fit c.args.others (zip2 (λ (a b : ℕ). a * b) c.args.rates c.args.days) c.requires.lanes.1
    (product_lanes c.args.rates c.args.days c.requires.lanes.3 c.requires.lanes.2)
    (λ i lt. omega (arith, c.requires.fits i lt, product_at c.args.rates c.args.days c.requires.lanes.3 c.requires.lanes.2 i lt))

pub returns-clause-lanes : goal.returns-clause-lanes
returns-clause-lanes c =
    let pays : length (zip2 (λ (a b : ℕ). a * b) c.args.rates c.args.days) ≡ 4 = product_lanes c.args.rates c.args.days c.requires.lanes.3 c.requires.lanes.2 in
    greater_lanes c.args.alone (zip2 (λ (a b : ℕ). a + b) c.args.others (zip2 (λ (a b : ℕ). a * b) c.args.rates c.args.days)) c.requires.lanes.0
    (sum_lanes c.args.others (zip2 (λ (a b : ℕ). a * b) c.args.rates c.args.days) c.requires.lanes.1 pays)

pub returns-clause-each : goal.returns-clause-each
returns-clause-each c = λ lane lt. (
    let pays : length (zip2 (λ (a b : ℕ). a * b) c.args.rates c.args.days) ≡ 4 = product_lanes c.args.rates c.args.days c.requires.lanes.3 c.requires.lanes.2 in
    greater_at c.args.alone (zip2 (λ (a b : ℕ). a + b) c.args.others (zip2 (λ (a b : ℕ). a * b) c.args.rates c.args.days)) c.requires.lanes.0
    (sum_lanes c.args.others (zip2 (λ (a b : ℕ). a * b) c.args.rates c.args.days) c.requires.lanes.1 pays) lane lt
    ∙ ap (max (slice_index c.args.alone lane)) (sum_at c.args.others (zip2 (λ (a b : ℕ). a * b) c.args.rates c.args.days) c.requires.lanes.1 pays lane lt
    ∙ ap (λ (p : ℕ). slice_index c.args.others lane + p) (product_at c.args.rates c.args.days c.requires.lanes.3 c.requires.lanes.2 lane lt)))
