use Rattle.strip_front.proofs.Starts.{starts, starts_depth}
use Rattle.strip_front.proofs.laws.tasks_are_starts.Goals as goal

pub returns : goal.returns
returns c = λ search depth is fits are. (starts search depth is fits are, starts_depth search depth is fits are)
