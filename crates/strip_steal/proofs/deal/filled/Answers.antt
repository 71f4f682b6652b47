use Rattle.strip_steal.proofs.Rules.{begins}
use Rattle.strip_steal.proofs.deal.filled.Goals as goal

pub fifo_as-requires : goal.fifo_as-requires
fifo_as-requires c = begins
