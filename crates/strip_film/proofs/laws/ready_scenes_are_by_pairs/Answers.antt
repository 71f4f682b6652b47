use Rattle.strip_film.proofs.ByPairs.{ready_is, is_ready, ready-no_pairs}
use Rattle.strip_film.proofs.laws.ready_scenes_are_by_pairs.Goals as goal

pub returns-clause-pairs : goal.returns-clause-pairs
returns-clause-pairs c = λ film set scene. (ready_is film set scene, is_ready film set scene)

pub returns-clause-none : goal.returns-clause-none
returns-clause-none c = ready-no_pairs
