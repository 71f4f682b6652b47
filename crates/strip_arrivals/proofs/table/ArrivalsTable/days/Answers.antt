use Rattle.std.proofs.Common.{◌≤◌, arith, length}
use Rattle.strip_mask.proofs.Totals.{sum_over_le_sum}
use Rattle.strip_arrivals.proofs.table.ArrivalsTable.days.Goals as goal

pub returns-clause-few : goal.returns-clause-few
returns-clause-few c =
    let short : length c.self.inside.sums ≤ 64 = omega (arith, c.self.invariant.limits.day_count, c.self.invariant.limits.scene_count) in
    omega (arith, c.sum.ensures, sum_over_le_sum c.self.inside.sums c.args.scenes.0 short, c.self.invariant.limits.day_sum)
