use Rattle.strip_film.proofs.Least.{finish_exists}
use Rattle.strip_film.proofs.laws.a_least_tail_exists.Goals as goal

pub returns : goal.returns
returns c = λ film set is lies. finish_exists film is set lies
