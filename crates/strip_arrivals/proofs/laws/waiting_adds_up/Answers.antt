use Rattle.strip_arrivals.proofs.Adds.{waiting_adds}
use Rattle.strip_arrivals.proofs.laws.waiting_adds_up.Goals as goal

pub returns : goal.returns
returns c = λ film group other newcomers others scenes apart. waiting_adds film group other newcomers others apart scenes
