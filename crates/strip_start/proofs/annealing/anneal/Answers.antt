use Rattle.strip_film.specs.Shown.{path_data}
use Rattle.strip_film.proofs.Moves.{scenes_known}
use Rattle.strip_start.proofs.annealing.anneal.Goals as goal

pub of-order-requires-clause-known : goal.of-order-requires-clause-known
of-order-requires-clause-known c = rw c.scenes-scenes.ensures (scenes_known c.args.film.now (path_data c.args.start.now) c.requires.0)
