use Rattle.strip_arrivals.proofs.Runs.{value_is_least}
use Rattle.strip_arrivals.proofs.laws.value_is_the_least_total.Goals as goal

pub returns : goal.returns
returns c = λ film set group newcomers small fits. value_is_least film set group small newcomers fits
