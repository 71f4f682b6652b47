use Rattle.std.proofs.Common.{◌≡◌}
use Rattle.strip_steal.specs.Taker.{IsTaker, taker_queues}
use Rattle.test_workers.proofs.queues.take_all.Given as goal

abbrev pub invariant-loop-turn : goal.invariant-loop-turn
invariant-loop-turn g l = IsTaker l.taker × (taker_queues l.taker ≡ taker_queues l.initial.taker)
