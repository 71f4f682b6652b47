use Rattle.std.proofs.Common.{◌≡◌, ◌+◌, ℕ, ap, length}
use lib.Lanes.{zip2}
use Rattle.strip_sets.proofs.Parts.{below_at, below_lanes, firsts_fit, seconds_fit}
use Rattle.strip_sets.proofs.Vectors.{sum_lanes, sums_fit}
use Rattle.strip_sets.proofs.lanes.below_two.Goals as goal

pub overflow_add-with_first : goal.overflow_add-with_first
overflow_add-with_first c = sums_fit c.args.numbers c.without_first.result c.requires.lanes (ap length c.without_first.ensures)
    (firsts_fit c.args.numbers c.without_first.result c.requires.lanes c.without_first.ensures c.requires.fits)

pub without_second-requires : goal.without_second-requires
without_second-requires c = sum_lanes c.args.numbers c.without_first.result c.requires.lanes (ap length c.without_first.ensures)

pub overflow_add-result : goal.overflow_add-result
overflow_add-result c =
    let long : length c.without_first.result ≡ 4 = ap length c.without_first.ensures in
    sums_fit (zip2 (λ (x y : ℕ). x + y) c.args.numbers c.without_first.result) c.without_second.result (sum_lanes c.args.numbers c.without_first.result c.requires.lanes long)
    (ap length c.without_second.ensures)
    (seconds_fit c.args.numbers c.without_first.result c.requires.lanes c.without_first.ensures c.without_second.result c.without_second.ensures c.requires.fits)

pub returns : goal.returns
returns c = record {
  lanes = below_lanes c.args.numbers c.without_first.result c.requires.lanes c.without_first.ensures c.without_second.result c.without_second.ensures;
  each = below_at c.args.numbers c.without_first.result c.requires.lanes c.without_first.ensures c.without_second.result c.without_second.ensures;
}
