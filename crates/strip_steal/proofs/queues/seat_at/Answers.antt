use Rattle.strip_steal.proofs.Rules.{forks}
use Rattle.strip_steal.proofs.queues.seat_at.Goals as goal

pub another-pass-requires : goal.another-pass-requires
another-pass-requires c = forks _ _ c.requires.weight
