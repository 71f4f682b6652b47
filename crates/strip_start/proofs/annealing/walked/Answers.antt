use Rattle.std.proofs.Common.{sym, subst}
use Rattle.strip_film.specs.Film.{LiesIn}
use Rattle.strip_film.specs.Shown.{path_data}
use Rattle.strip_start.proofs.annealing.walked.Goals as goal

pub ready-requires : goal.ready-requires
ready-requires c =
    subst (LiesIn c.args.film.now) (sym c.rest.ensures)
    (c.what_remains_lies_in_the_film.ensures c.args.film.now (path_data c.loop-scene.path) c.loop-scene.invariant)
