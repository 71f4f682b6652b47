use Rattle.strip_arrivals.proofs.Along.{value_le}
use Rattle.strip_arrivals.proofs.laws.value_is_at_most_waiting.Goals as goal

pub returns : goal.returns
returns c = λ film set group newcomers scenes small_set small fits apart each. value_le film set group newcomers small_set small apart scenes fits each
