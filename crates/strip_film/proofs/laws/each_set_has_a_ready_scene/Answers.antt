use Rattle.strip_film.proofs.ByPairs.{some_ready}
use Rattle.strip_film.proofs.laws.each_set_has_a_ready_scene.Goals as goal

pub returns : goal.returns
returns c = some_ready
