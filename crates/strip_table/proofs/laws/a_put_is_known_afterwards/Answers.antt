use Rattle.strip_table.proofs.Afterwards.{known_after}
use Rattle.strip_table.proofs.laws.a_put_is_known_afterwards.Goals as goal

pub returns : goal.returns
returns c = λ buckets number bucket after known answer is puts. known_after bucket after known answer is.once puts
