use Rattle.std.proofs.Common.{◌≡◌}
use Rattle.strip_steal.specs.Taker.{IsTaker, taker_queues}
use Rattle.test_workers.proofs.queues.first_is_given_all.Given as goal

abbrev pub invariant-loop-turn : goal.invariant-loop-turn
invariant-loop-turn g l = IsTaker l.first × (taker_queues l.first ≡ taker_queues l.initial.first)
