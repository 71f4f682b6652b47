use Rattle.std.proofs.Common.{◌≡◌, ℕ, ◌≤◌, List, length, sum, ap, arith}
use Rattle.strip_mask.specs.Set.{sum_over}
use Rattle.strip_mask.proofs.Totals.{sum_over_le_sum}
use Rattle.strip_arrivals.proofs.table.ArrivalsTable.rate.Goals as goal

-- no set of actors gets more than all do
set_low : {holds read : List ℕ} (set : ℕ) → length holds ≤ 64 → sum holds ≤ 64000000000 → read ≡ holds → sum_over read set ≤ 64000000000
set_low {holds} set few low is = omega (arith, ap (λ (v : List ℕ). sum_over v set) is, sum_over_le_sum holds set few, low)

pub sum_over-requires-clause-fits : goal.sum_over-requires-clause-fits
sum_over-requires-clause-fits c =
    let limits = c.self.invariant.limits in
    omega (arith, set_low c.args.actors.0 limits.actor_count limits.hold_sum c.deref.ensures.value)

pub returns-clause-low : goal.returns-clause-low
returns-clause-low c =
    let limits = c.self.invariant.limits in
    omega (arith, c.sum_over.ensures, set_low c.args.actors.0 limits.actor_count limits.hold_sum c.deref.ensures.value)
