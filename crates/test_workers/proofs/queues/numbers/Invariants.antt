use Rattle.test_workers.proofs.QueueNumbers.{AreUpTo}
use Rattle.test_workers.proofs.queues.numbers.Given as goal

abbrev pub invariant-loop-before : goal.invariant-loop-before
invariant-loop-before l = AreUpTo l.before l.numbers.items
