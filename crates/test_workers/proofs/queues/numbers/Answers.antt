use Rattle.std.proofs.Common.{◌+◌, refl}
use Rattle.test_workers.proofs.QueueNumbers.{up_to-more}
use Rattle.test_workers.proofs.queues.numbers.Goals as goal

pub loop-before-preserved : goal.loop-before-preserved
loop-before-preserved c =
    rw c.in_ok-push.ensures.items (up_to-more c.loop-before.before (c.loop-before.before + 1) c.loop-before.numbers.items refl c.loop-before.invariant)
