use Rattle.strip_mask.proofs.Below.{has_full}
use Rattle.strip_reduce.proofs.search.working_alike.Goals as goal

pub loop-cast-init : goal.loop-cast-init
loop-cast-init c = λ other small. rw c.below-alike.ensures (has_full 64 other small)
