use Rattle.strip_film.proofs.Optimum.{optimum_from_finish, finish_from_optimum}
use Rattle.strip_film.proofs.laws.finishing_everything_is_the_optimum.Goals as goal

pub returns : goal.returns
returns c = λ film cost is. (optimum_from_finish film is cost, finish_from_optimum film is cost)
