use Rattle.std.proofs.Common.{ℕ, ◌+◌, ◌*◌, ◌≤◌, arith}
use Rattle.std.proofs.Math.Nat.{mul-le-mul}
use Rattle.strip_arrivals.proofs.table.ArrivalsTable.never.Goals as goal

-- what two sets of actors get, on one day more than there are
scaled_low : (days rate other : ℕ) → days ≤ 19800 → rate ≤ 64000000000 → other ≤ 64000000000 → (days + 1) * (rate + other) ≤ 19801 * 128000000000
scaled_low days rate other few low low_too =
    let more : days + 1 ≤ 19801 = omega (arith, few) in
    let both : rate + other ≤ 128000000000 = omega (arith, low, low_too) in
    mul-le-mul more both

pub overflow_add-rates : goal.overflow_add-rates
overflow_add-rates c = record { fits = omega (arith, c.rate.ensures.low, c.rate-2.ensures.low) }

pub overflow_mul-result : goal.overflow_mul-result
overflow_mul-result c = record { fits = omega (arith, scaled_low c.days.result c.rate.result c.rate-2.result c.days.ensures.few c.rate.ensures.low c.rate-2.ensures.low) }

pub overflow_add-result-2 : goal.overflow_add-result-2
overflow_add-result-2 c = record { fits = omega (arith, scaled_low c.days.result c.rate.result c.rate-2.result c.days.ensures.few c.rate.ensures.low c.rate-2.ensures.low) }

pub returns-clause-small : goal.returns-clause-small
returns-clause-small c = omega (arith, scaled_low c.days.result c.rate.result c.rate-2.result c.days.ensures.few c.rate.ensures.low c.rate-2.ensures.low)
