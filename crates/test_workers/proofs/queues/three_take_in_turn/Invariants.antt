use Rattle.std.proofs.Common.{◌≡◌}
use Rattle.strip_steal.specs.Taker.{IsTaker, taker_queues}
use Rattle.test_workers.proofs.queues.three_take_in_turn.Given as goal

abbrev pub invariant-loop-turn : goal.invariant-loop-turn
invariant-loop-turn g l =
    (IsTaker l.first × (taker_queues l.first ≡ taker_queues l.initial.first))
    × (IsTaker l.second × (taker_queues l.second ≡ taker_queues l.initial.second))
    × IsTaker l.third × (taker_queues l.third ≡ taker_queues l.initial.third)
