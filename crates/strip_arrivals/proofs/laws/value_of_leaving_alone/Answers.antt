use Rattle.strip_arrivals.proofs.Alone.{alone}
use Rattle.strip_arrivals.proofs.laws.value_of_leaving_alone.Goals as goal

pub returns : goal.returns
returns c = λ film set group small. alone film set group small
