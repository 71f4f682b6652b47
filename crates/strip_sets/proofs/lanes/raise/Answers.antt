use Rattle.std.proofs.Common.{◌+◌, ◌∙◌, ℕ, ap, max, slice_index}
use lib.Lanes.{zip2}
use Rattle.strip_sets.proofs.Vectors.{differences_fit, greater_at, greater_lanes, settled, settled_at, settled_lanes, sum_at, sum_lanes, sums_fit}
use Rattle.std.proofs.Common.{arith}
use Rattle.strip_sets.proofs.lanes.raise.Goals as goal

pub overflow_add-result : goal.overflow_add-result
overflow_add-result c = sums_fit c.args.others c.args.saved c.requires.lanes.1 c.requires.lanes.2 c.requires.fits

pub overflow_sub-result : goal.overflow_sub-result
overflow_sub-result c = differences_fit (zip2 (λ (x y : ℕ). x + y) c.args.others c.args.saved) c.args.owed
    (sum_lanes c.args.others c.args.saved c.requires.lanes.1 c.requires.lanes.2) c.requires.lanes.3
    (λ i lt. omega (arith, c.requires.covered i lt, sum_at c.args.others c.args.saved c.requires.lanes.1 c.requires.lanes.2 i lt))

pub returns-clause-lanes : goal.returns-clause-lanes
returns-clause-lanes c = greater_lanes c.args.numbers (settled c.args.others c.args.saved c.args.owed c.requires.lanes.1 c.requires.lanes.2 c.requires.lanes.3)
    c.requires.lanes.0 (settled_lanes c.args.others c.args.saved c.args.owed c.requires.lanes.1 c.requires.lanes.2 c.requires.lanes.3)

pub returns-clause-each : goal.returns-clause-each
returns-clause-each c = λ lane lt. greater_at c.args.numbers (settled c.args.others c.args.saved c.args.owed c.requires.lanes.1 c.requires.lanes.2 c.requires.lanes.3)
    c.requires.lanes.0 (settled_lanes c.args.others c.args.saved c.args.owed c.requires.lanes.1 c.requires.lanes.2 c.requires.lanes.3) lane lt
    ∙ ap (max (slice_index c.args.numbers lane)) (settled_at c.args.others c.args.saved c.args.owed c.requires.lanes.1 c.requires.lanes.2 c.requires.lanes.3 lane lt)
