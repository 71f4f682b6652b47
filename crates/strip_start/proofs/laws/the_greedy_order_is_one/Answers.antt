use Rattle.strip_film.specs.Film.{all_scenes}
use Rattle.strip_start.proofs.Leasts.{one_greedy}
use Rattle.strip_start.proofs.laws.the_greedy_order_is_one.Goals as goal

pub returns : goal.returns
returns c = λ film a b. one_greedy film (all_scenes film) a b
