use Rattle.std.proofs.Common.{ℕ, ◌-◌, ◌≤◌, List, sym, subst, arith}
use Rattle.strip_steal.specs.Rule.{full_weight, times}
use Rattle.test_workers.proofs.queues.first_is_given_all.Goals as goal

pub pool-requires-clause-once : goal.pool-requires-clause-once
pool-requires-clause-once g c =
    subst (λ (numbers : List ℕ). (number : ℕ) → times number numbers ≤ 1) (sym c.as_slice.ensures.value) c.in_ok-numbers.ensures

pub taker-requires-clause-pool : goal.taker-requires-clause-pool
taker-requires-clause-pool g c = (full_weight - 2, c.in_ok-queues.ensures.pool)

pub taker-requires-2-clause-pool : goal.taker-requires-2-clause-pool
taker-requires-2-clause-pool g c = (full_weight - 3, c.in_ok-first.ensures.weight (full_weight - 1) c.in_ok-queues.ensures.pool)

pub gather-firsts-requires-clause-pool : goal.gather-firsts-requires-clause-pool
gather-firsts-requires-clause-pool g c = (
  full_weight - 2,
  c.in_ok-second.ensures.weight (full_weight - 2) (c.in_ok-first.ensures.weight (full_weight - 1) c.in_ok-queues.ensures.pool),
  omega arith,
)

pub gather-seconds-requires-clause-pool : goal.gather-seconds-requires-clause-pool
gather-seconds-requires-clause-pool g c = (
  full_weight - 1,
  c.gather-firsts.ensures.gathered.weight (full_weight - 2)
      (c.in_ok-second.ensures.weight (full_weight - 2) (c.in_ok-first.ensures.weight (full_weight - 1) c.in_ok-queues.ensures.pool)),
  omega arith,
)
