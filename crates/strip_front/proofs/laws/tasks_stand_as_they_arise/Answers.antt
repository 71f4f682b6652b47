use Rattle.strip_front.proofs.Starts.{same_order}
use Rattle.strip_front.proofs.laws.tasks_stand_as_they_arise.Goals as goal

pub returns : goal.returns
returns c = λ rules depth tasks none are. same_order rules none depth tasks are
